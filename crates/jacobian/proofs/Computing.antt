-- `computing` unfolds what the operations on classes use: under `unfolding computing` a closed sum, double, half or
-- answer computes.
use Rattle.binary_field.specs.Field.{field, element}
use Rattle.binary_field.proofs.Field.{computing as numbers_computing}
use Rattle.char2_algebra.specs.Polynomial.{of_list}
use Rattle.char2_algebra.specs.Lead.{lead, monic_of}
use Rattle.char2_algebra.specs.Euclid.{bezout_zero, bezout_to, bezout, bezout3}
use Rattle.char2_algebra.specs.Square.{tail, sqrt_to, sqrt}
use Rattle.polynomial_lists.specs.Polynomials.{polynomials}
use Rattle.class_group.specs.Mumford.{value, neutral, opposite}
use Rattle.class_group.specs.Coefficients.{monic_7, curve_of}
use Rattle.class_group.specs.Composition.{composed, compose, compose_double}
use Rattle.class_group.specs.Reduction.{reduction_step, reduce_to, reduce}
use Rattle.class_group.specs.Operations.{counted_sum, counted_double, sum, double}
use Rattle.class_group.specs.Half.{lift, exchange, halved, quadratic, half_of_degree_1, lifted_half_of_degree_2, half_of_degree_2, exchanged_of_degree_3, lifted_half_of_degree_3, half_of_degree_3, triple, half_by, half}
use Rattle.row_theory.specs.Field.{degree_of, accepted, F, 𝔸, el, poly}
use Rattle.jacobian.specs.Curves.{coefficients, curve_with, f_row, degree_refusal, coefficient_refusal, curve_refusal, curve}
use Rattle.jacobian.specs.Checks.{unless, ◌or_else◌, blank}
use Rattle.binary_field.specs.Answer.{below}
use Rattle.jacobian.specs.Classes.{u_row, pair, numbers, class_of, padded, shape_refusal, range_refusal, class_refusal}
use Rattle.jacobian.specs.Answer.{refusal, refusal_of_two, verdict_of, neutral_class, answered, membership_answer, opposite_answer, double_answer, half_answer, sum_answer}

unfoldable pub elements : Unit {0}
unfolding degree_of accepted field element numbers_computing F el
elements = tt

unfoldable pub polynomials_computing : Unit {0}
unfolding elements polynomials of_list 𝔸 poly lead monic_of bezout_zero bezout_to bezout bezout3 tail sqrt_to sqrt
polynomials_computing = tt

unfoldable pub operations : Unit {0}
unfolding value neutral opposite composed compose compose_double reduction_step reduce_to reduce counted_sum counted_double sum double
operations = tt

unfoldable pub halving : Unit {0}
unfolding lift exchange halved quadratic half_of_degree_1 lifted_half_of_degree_2 half_of_degree_2 exchanged_of_degree_3 lifted_half_of_degree_3 half_of_degree_3 triple half_by half
halving = tt

unfoldable pub by_value : Unit {0}
unfolding monic_7 curve_of unless ◌or_else◌ below blank coefficients curve_with f_row degree_refusal coefficient_refusal curve_refusal curve u_row pair numbers class_of padded shape_refusal range_refusal class_refusal
by_value = tt

unfoldable pub answers : Unit {0}
unfolding refusal refusal_of_two verdict_of neutral_class answered membership_answer opposite_answer double_answer half_answer sum_answer
answers = tt

unfoldable pub computing : Unit {0}
unfolding polynomials_computing operations halving by_value answers
computing = tt
