-- What writing answers, from what its passes leave.
use Prim.Native.Nat.{ℕ, ◌+◌, ◌*◌, ◌/◌, ◌≤◌, ◌<◌}
use mathlib.Core.Path.{◌≡◌, refl, sym, ap, ◌∙◌}
use mathlib.Core.Logic.{◌≢◌}
use mathlib.Core.Bool.{Bool, cond}
use mathlib.Core.List.{List, [], ◌∷◌, ◌++◌, append-nil}
use native.Mathlib.Nat.{zero-add}
use native.Mathlib.Omega.{arith}
use lib.Dec.{ltb}
use lib.ListN.{length, drop, length-append}
use lib.Seq.{sets, sets-eq}
use lib.Ieee.{Float}
use borrow.Author.Tests.{lt-ltb, le-ltb, ne_eqb}
use Rattle.laws.specs.Refusals.{filled}
use Rattle.laws.proofs.ListLaws.{each_append}
use Rattle.laws.proofs.Stores.{sets_append}
use Rattle.mesh.proofs.Accepts.{numbers_model}
use Rattle.laws.proofs.Tables.{refusal_first, refusal_second}
use Rattle.mesh.specs.Model.{Model, cells_of}
use Rattle.mesh.specs.Acceptance.{model_table, model_refusal}
use Rattle.model_file.specs.Records.{last_record}
use Rattle.laws.specs.Lists.{each}
use Rattle.model_file.specs.File.{node_records, cell_records, records_of, encode}
use Rattle.model_file.specs.Steps.{join}
use Rattle.model_file.specs.Held.{Held}
use Rattle.model_file.specs.Writing.{Writing, write_refusal}
use Rattle.std.specs.Prelude.{Ok, Err}
use Rattle.refusals.specs.Told.{number}
use Rattle.refusals.specs.declared.Refusal.{Refusal}
use Rattle.refusals.proofs.Told.{number-positive, ok_told, err_told}
use Rattle.model_file.proofs.Accepting.{Accepted}
use Rattle.model_file.proofs.Chop.{length_join, nodes_whole, cells_whole, cells_few}

-- so many nodes
pub nodes_count : (cs : List Float) → length (node_records cs) ≡ length cs / 3
nodes_count [] = refl
nodes_count (x ∷ []) = refl
nodes_count (x ∷ y ∷ []) = refl
nodes_count (x ∷ y ∷ z ∷ cs) = let i = nodes_count cs in omega arith

-- an accepted model's records are few
pub few_records : (m : Model) → Accepted m → length m.coords / 3 + length (each cell_records (cells_of m)) + 1 ≤ 131072
unfolding cells_of
few_records m ok = omega (arith, cells_few 0 m.kinds m.ends m.words, ok.few, ok.shape.cells, ok.shape.words)

module _ (m : Model) where
  -- bytes of the nodes
  nodes_long : length (join (node_records m.coords)) ≡ 32 * (length m.coords / 3)
  nodes_long = length_join (node_records m.coords) (nodes_whole m.coords) ∙ ap (λ (x : ℕ). 32 * x) (nodes_count m.coords)

  -- bytes of the cells
  cells_long : length (join (each cell_records (cells_of m))) ≡ 32 * length (each cell_records (cells_of m))
  unfolding cells_of
  cells_long = length_join (each cell_records (cells_of m)) (cells_whole 0 m.kinds m.ends m.words)

  -- the bytes: nodes, cells, T
  parts : encode m ≡ join (node_records m.coords) ++ (join (each cell_records (cells_of m)) ++ last_record m.flags m.cap m.tolerance)
  unfolding encode records_of
  parts =
      let t = last_record m.flags m.cap m.tolerance in
      let c = each cell_records (cells_of m) in
      each_append (λ (q : List ℕ). q) (node_records m.coords) (c ++ (t ∷ [])) ∙ ap (λ (x : List ℕ). join (node_records m.coords) ++ x) (each_append (λ (q : List ℕ). q) c (t ∷ []) ∙ ap (λ (x : List ℕ). join c ++ x) (append-nil t))

  -- how many bytes
  pub encode_long : length (encode m) ≡ 32 * (length m.coords / 3 + length (each cell_records (cells_of m)) + 1)
  encode_long =
      let t = last_record m.flags m.cap m.tolerance in
      let c = each cell_records (cells_of m) in
      let p = ap length parts in
      let q = length-append (join (node_records m.coords)) (join c ++ t) in
      let r = length-append (join c) t in
      omega (arith, nodes_long, cells_long)

  -- the three passes, one behind the other
  pub three_passes : (out l1 l2 l3 : List ℕ) → l1 ≡ sets out 0 (join (node_records m.coords))
      → l2 ≡ sets l1 (32 * (length m.coords / 3)) (join (each cell_records (cells_of m)))
      → l3 ≡ sets l2 (32 * (length m.coords / 3 + length (each cell_records (cells_of m)))) (last_record m.flags m.cap m.tolerance)
      → l3 ≡ sets out 0 (encode m)
  three_passes out l1 l2 l3 e1 e2 e3 =
      let t = last_record m.flags m.cap m.tolerance in
      let n = join (node_records m.coords) in
      let c = join (each cell_records (cells_of m)) in
      let a : 32 * (length m.coords / 3) ≡ 0 + length n = omega (arith, nodes_long) in
      let b : 32 * (length m.coords / 3 + length (each cell_records (cells_of m))) ≡ 0 + length n + length c = omega (arith, nodes_long, cells_long) in
      e3
      ∙ (λ i. sets ((e2 ∙ (λ j. sets (e1 j) (a j) c)) i) (b i) t)
      ∙ sym (ap (sets out 0) parts ∙ sets_append out 0 n (c ++ t) ∙ sets_append (sets out 0 n) (0 + length n) c t)

-- ---- the answer

module _ (m : Model) (out : List ℕ) where
  -- 5 to 10 come first
  pub refused_model : model_refusal m ≢ 0 → write_refusal m out ≡ model_refusal m
  unfolding model_refusal
  refused_model z = refusal_first (model_table m) ((4, ltb (length out) (length (encode m))) ∷ []) z

  -- then 4
  then_four : model_refusal m ≡ 0 → write_refusal m out ≡ cond (ltb (length out) (length (encode m))) 4 0
  unfolding model_refusal
  then_four z = refusal_second (model_table m) ((4, ltb (length out) (length (encode m))) ∷ []) (numbers_model m) z

  pub refused_room : model_refusal m ≡ 0 → length out < length (encode m) → write_refusal m out ≡ 4
  refused_room z h = then_four z ∙ ap (λ (b : Bool). cond b 4 0) (lt-ltb (length out) (length (encode m)) h)

  -- a refusal's number, and nothing written
  pub writing_refused : Held m → (e : Refusal) → write_refusal m out ≡ number e → Writing m out out (Err e)
  writing_refused held e h =
      let z : number e ≢ 0 = λ z. omega (arith, number-positive e) in
      record {
        answered = err_told {A = ℕ} {B = ℕ} (λ a. a) e (write_refusal m out) (length (encode m)) (sym h);
        out_is = sym (ap (λ (k : ℕ). filled k (encode m) out) h ∙ ap (λ (b : Bool). cond b (encode m ++ drop (length (encode m)) out) out) (ne_eqb (number e) 0 z));
        held = held;
      }

  -- the bytes in front, the rest as it was
  pub writing_done : Held m → (out' : List ℕ) (n : ℕ) → model_refusal m ≡ 0 → n ≡ length (encode m) → length (encode m) ≤ length out → out' ≡ sets out 0 (encode m) → Writing m out out' (Ok n)
  writing_done held out' n z q h w =
      let e : write_refusal m out ≡ 0 = then_four z ∙ ap (λ (b : Bool). cond b 4 0) (le-ltb (length out) (length (encode m)) h) in
      record {
        answered = ok_told {A = ℕ} {B = ℕ} (λ a. a) n (write_refusal m out) (length (encode m)) e q;
        out_is = w ∙ sets-eq (encode m) out 0 (omega arith) ∙ ap (λ (k : ℕ). encode m ++ drop k out) (zero-add (length (encode m))) ∙ sym (ap (λ (k : ℕ). filled k (encode m) out) e);
        held = held;
      }
