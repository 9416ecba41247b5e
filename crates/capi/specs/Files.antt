-- The exported reading and writing of a file.
use Rattle.std.specs.Prelude.{ℕ, List, ◌≡◌, length, Float}
use Rattle.laws.specs.Refusals.{filled}
use Rattle.mesh.specs.Model.{Model}
use Rattle.model_file.specs.File.{decode, encode}
use Rattle.model_file.specs.Reading.{read_refusal, found_in, ReadMemory}
use Rattle.model_file.specs.Writing.{write_refusal}
use Rattle.model_file.specs.declared.Found.{Found}
use Rattle.capi.specs.Written.{Exported}

-- Reading: 0 or the refusal's number; what is found; the lists as reading promises them.
pub record ReadExport (s : List ℕ) (coords coords' : List Float) (kinds kinds' ends ends' words words' : List ℕ) (found found' : Found) (r : ℕ) : Type 0 where
  pub found_is : Exported (read_refusal s coords kinds ends words) (found_in (decode s)) found found' r
  pub memory : ReadMemory s coords coords' kinds kinds' ends ends' words words'

-- Writing: 0 or the refusal's number; the file's length; the bytes as writing promises them.
pub record WriteExport (m : Model) (out out' : List ℕ) (size size' r : ℕ) : Type 0 where
  pub size_is : Exported (write_refusal m out) (length (encode m)) size size' r
  pub out_is : out' ≡ filled (write_refusal m out) (encode m) out
