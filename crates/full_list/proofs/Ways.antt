-- Which way is taken, and what is asked for: what the tables and the flags say is what the definitions say.
use Prim.Native.Nat.{ℕ, zero, suc, ◌≤◌}
use mathlib.Core.Path.{◌≡◌, refl, sym, ap, ◌∙◌}
use mathlib.Core.Bool.{Bool, true, false}
use mathlib.Core.List.{List}
use native.Mathlib.Omega.{arith}
use borrow.Author.Tests.{ltb-false}
use lib.ListN.{length}
use Rattle.laws.specs.Limits.{flag_limit}
use Rattle.laws.proofs.Tests.{clash}
use Rattle.mesh.specs.Model.{Model, contains, intersects, TOPOLOGY}
use Rattle.mesh.specs.Acceptance.{model_refusal, faces_in}
use Rattle.mesh.proofs.Accepts.{accepts}
use Rattle.findings.specs.Candidates.{is_by_nodes as definedByNodes}
use Rattle.pairs.specs.Work.{is_by_nodes}
use Rattle.layout.specs.declared.Layout.{Layout}
use Rattle.layout.specs.Tables.{Faced}
use Rattle.layout.specs.Shown.{Shows}
use Rattle.shown.proofs.Candidates.{way_shown}
use Rattle.full_list.specs.declared.Choice.{Choice}
use Rattle.full_list.specs.Ways.{taken, goes_by_nodes, sought_in}

-- the way
pub way_is : (m : Model) (l : Layout) (t : List ℕ) → Faced l t → Shows m l t → (choice : Choice) (b : Bool) → b ≡ is_by_nodes l.at t → taken choice b ≡ goes_by_nodes choice m
unfolding goes_by_nodes
way_is m l t F S choice b e =
    ap (taken choice) (e ∙ sym (way_shown m l t F S) ∙ ap (λ (n : ℕ). definedByNodes n (faces_in m)) S.nodes)

-- ---- nothing asked for

-- flags that share no bit with all checks are 0
none_set : (n : ℕ) → n ≤ 3 → intersects n 3 ≡ false → n ≡ 0
none_set zero h e = refl
none_set (suc zero) h e = absurd (clash refl e)
none_set (suc (suc zero)) h e = absurd (clash refl e)
none_set (suc (suc (suc zero))) h e = absurd (clash refl e)
none_set (suc (suc (suc (suc n)))) h e = absurd (omega (arith, h))

-- so an accepted model that asks for nothing has flags 0
pub nothing_asked : (m : Model) → model_refusal m ≡ 0 → intersects m.flags 3 ≡ false → m.flags ≡ 0
nothing_asked m ok e = none_set m.flags (ltb-false flag_limit m.flags (accepts m ok).flags) e

pub asks_no_pairs : (m : Model) → contains m.flags TOPOLOGY ≡ false → sought_in m ≡ 0
unfolding sought_in
asks_no_pairs m e = rw e

pub asks_pairs : (m : Model) → contains m.flags TOPOLOGY ≡ true → sought_in m ≡ length (faces_in m)
unfolding sought_in
asks_pairs m e = rw e
