-- `triples::Seeking::consider` meets its contract. A hit is inserted, and there is room for it, since the list stays ascending and below the number of faces.
use Prim.Native.Nat.{ℕ, ◌<◌}
use mathlib.Core.Path.{◌≡◌, sym, ◌∙◌}
use mathlib.Core.List.{[], ◌∷◌}
use mathlib.Core.Bool.{true, false, or-false}
use native.Mathlib.Omega.{arith}
use borrow.Author.Tests.{eqb-true}
use lib.Dec.{eqb}
use Rattle.index.specs.declared.Places.{Places}
use Rattle.index.specs.Faces.{input, base}
use Rattle.index.proofs.Read.{of_index}
use Rattle.seek.specs.Candidates.{shares}
use Rattle.triples.proofs.Adds.{Faces, sum_few, added_none}
use Rattle.triples.proofs.Seeking.consider.Goals as goal

-- one face
only : (p : Places) (g : ℕ) → g < p.faces → Faces p (g ∷ [])
only p g h x e = let s : x ≡ g = eqb-true x g (sym (or-false (eqb x g)) ∙ e) in omega arith

pub insert-requires : goal.insert-requires
insert-requires c =
    let a = c.args in
    let op = c.requires.fact in (
      omega (arith, op.few, op.ready.room),
      omega (arith, sum_few a.self.now.at a.self.now.lo a.n a.work.now op (a.g ∷ []) (only a.self.now.at a.g c.requires.g_lt_faces), op.ready.room),
      op.asc,
    )

pub returns-then-not-is_hit : goal.returns-then-not-is_hit
returns-then-not-is_hit c =
    let a = c.args in
    let s = a.self.now in
    let t : shares s.at (input s.at (base s.at a.work.now)) s.lo a.g ≡ false =
    sym (of_index c.new.result (λ p b. c.is_hit.result ≡ shares p (input p b) s.lo a.g) c.new.ensures c.is_hit.ensures) ∙ c.if-not-is_hit.true in
    rw t (added_none s.at s.lo a.n a.work.now c.requires.fact)

pub returns : goal.returns
returns c =
    let a = c.args in
    let s = a.self.now in
    let t : shares s.at (input s.at (base s.at a.work.now)) s.lo a.g ≡ true =
    sym (of_index c.new.result (λ p b. c.is_hit.result ≡ shares p (input p b) s.lo a.g) c.new.ensures c.is_hit.ensures) ∙ c.if-not-is_hit.false in
    rw t (record { number = c.insert.ensures.0; filled = c.insert.ensures.1 })
