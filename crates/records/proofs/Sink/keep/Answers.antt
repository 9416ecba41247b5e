-- `records::Sink::keep` meets its contract.
use mathlib.Core.Path.{refl}
use native.Mathlib.Omega.{arith}
use Rattle.records.proofs.Keeping.{kept_in, kept_out}
use Rattle.records.proofs.Sink.keep.Goals as goal

pub returns-then-n-room : goal.returns-then-n-room
returns-then-n-room c R x e q = kept_in R x c.args.r c.args.centre c.args.self.now _ refl refl (omega arith) e q c.put_record.ensures

pub returns-else-n-room : goal.returns-else-n-room
returns-else-n-room c R x e q = kept_out R x c.args.self.now _ refl refl (omega arith) refl
