-- The candidates of one face of a model: why seeking them refuses, what the lent list and the work hold afterwards, and which way was taken.
use Rattle.std.specs.Prelude.{ℕ, Bool, List, [], ◌∷◌, ◌++◌, map, ◌≡◌, length, take, replicate, Result}
use Rattle.laws.specs.Refusals.{refusal, answer, filled}
use Rattle.refusals.specs.Told.{told_by}
use Rattle.refusals.specs.declared.Refusal.{Refusal}
use Rattle.mesh.specs.Model.{Model}
use Rattle.mesh.specs.Acceptance.{faces_in, work_needed, check_table}
use Rattle.mesh.specs.Lookup.{face_at, face_off}
use Rattle.findings.specs.Rules.{rules_of, cells_in}
use Rattle.findings.specs.Candidates.{candidates}
use Rattle.seek.specs.Ways.{tally_of}
use Rattle.candidates.specs.declared.SoughtFace.{SoughtFace}

-- the numbers of face f's candidates
unfoldable pub candidates_of : Model → ℕ → List ℕ
candidates_of m f = map (λ g. g.num) (candidates (rules_of m) (cells_in m) (face_at (faces_in m) f))

-- 5 to 11, then 12
unfoldable pub seek_refusal : Model → ℕ → List ℕ → ℕ
seek_refusal m f work = refusal (check_table m (length work) ++ ((12, face_off m f) ∷ []))

-- The promise, by common nodes or by node triples: the whole count; as many candidates as fit; the needed words of work, which end zero; the way taken.
pub record Seeking (is_by_nodes : Bool) (m : Model) (f : ℕ) (found found' work work' : List ℕ) (r : Result SoughtFace Refusal) : Type 0 where
  pub answered : told_by (λ s. s.count) r ≡ answer (seek_refusal m f work) (length (candidates_of m f))
  pub found_is : found' ≡ filled (seek_refusal m f work) (take (length found) (candidates_of m f)) found
  pub work_is : work' ≡ filled (seek_refusal m f work) (replicate (work_needed m) 0) work
  pub sought : told_by (λ s. s.tally) r ≡ answer (seek_refusal m f work) (tally_of is_by_nodes 1)
