use mathlib.Core.Path.{sym, subst}
use lib.Dec.{T}
use lib.Ieee.{nan}
use Rattle.model_file.specs.Held.{Fits}
use Rattle.laws.proofs.Holding.{all_known}
use Rattle.model_write.proofs.held.Goals as goal

pub returns : goal.returns
returns c = (all_known Fits nan c.args.coords.now c.type_inv.coords, subst T (sym c.well_formed.1.0.1) tt, c.ranges.cap.fits)
