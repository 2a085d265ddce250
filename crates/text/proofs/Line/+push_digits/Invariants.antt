-- The measure is the number of digits.
use Rattle.text.proofs.Line.+push_digits.Given as goal

abbrev pub decreases-push_digits : goal.decreases-push_digits
decreases-push_digits l = l.most
