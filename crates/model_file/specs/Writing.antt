-- Writing a file: why it refuses, what it answers, and what the lent bytes hold afterwards.
use Rattle.std.specs.Prelude.{ℕ, List, [], ◌∷◌, ◌++◌, ◌≡◌, ltb, length, Result}
use Rattle.laws.specs.Refusals.{refusal, answer, filled}
use Rattle.refusals.specs.Told.{told}
use Rattle.refusals.specs.declared.Refusal.{Refusal}
use Rattle.mesh.specs.Model.{Model}
use Rattle.mesh.specs.Acceptance.{model_table}
use Rattle.model_file.specs.File.{encode}
use Rattle.model_file.specs.Held.{Held}

-- 5 to 10, then 4: too few lent bytes
abbrev pub write_refusal : Model → List ℕ → ℕ
write_refusal m out = refusal (model_table m ++ ((4, ltb (length out) (length (encode m))) ∷ []))

-- Writing's promise: the answer, and what the lent bytes hold afterwards; the model's values fit, by the types of what is lent.
pub record Writing (m : Model) (out out' : List ℕ) (r : Result ℕ Refusal) : Type 0 where
  pub answered : told r ≡ answer (write_refusal m out) (length (encode m))
  pub out_is : out' ≡ filled (write_refusal m out) (encode m) out
  pub held : Held m
