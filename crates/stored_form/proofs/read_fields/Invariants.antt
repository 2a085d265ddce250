-- The invariant of `read_fields`: reading the fields that are left gives what reading all of them gives.
use mathlib.Core.Path.{◌≡◌}
use lib.ListN.{drop}
use Rattle.stored_form.specs.Reader.{read_fields}
use Rattle.stored_form.proofs.read_fields.Given as goal

abbrev pub invariant-loop-tag : goal.invariant-loop-tag
invariant-loop-tag l = read_fields l.tags l.fn.h l.s l.fn.start.at ≡ read_fields (drop l.tag-index l.tags) l.read.values l.s l.read.next.at
