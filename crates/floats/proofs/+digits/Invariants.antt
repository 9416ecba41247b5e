-- The digits left fall at each call.
use Rattle.floats.proofs.+digits.Given as goal

abbrev pub decreases-digits : goal.decreases-digits
decreases-digits l = l.left
