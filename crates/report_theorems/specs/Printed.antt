-- Document 01's example of a report, and further lines, as they are printed (docs/SPECIFICATION.md, 10).
use Rattle.std.specs.Prelude.{ℕ, List, [], ◌∷◌}
use Prim.Native.Char.{code}
use Prim.Native.String.{String, [] as end, ◌∷◌ as ◌then◌}
use Rattle.jacobian.specs.declared.Class.{Class}
use Rattle.archive.specs.Archive.{Archive}
use Rattle.walk_report.specs.Lines.{line, first_line, refusal_line}

-- the bytes of a text
abbrev pub bytes_of : String → List ℕ
bytes_of end = []
bytes_of (c then s) = code c ∷ bytes_of s

-- the class of a degree with these rows, the lowest coefficient first
abbrev pub class : ℕ → List ℕ → List ℕ → Class
class n u v = record { degree = n; u = u; v = v }

-- the example's archive: d = 5, f = x^7, drawing number A1, seal [x^2, 1], operations [x, 1] and [x, 0], no pairs
unfoldable pub example_archive : Archive
example_archive = record {
  curve = record { degree = 5; f3 = 0; f1 = 0; f0 = 0 };
  drawing = bytes_of "A1";
  seal = class 2 (0 ∷ 0 ∷ 0 ∷ []) (1 ∷ 0 ∷ 0 ∷ []);
  operations = class 1 (0 ∷ 0 ∷ 0 ∷ []) (1 ∷ 0 ∷ 0 ∷ []) ∷ class 1 (0 ∷ 0 ∷ 0 ∷ []) (0 ∷ 0 ∷ 0 ∷ []) ∷ [];
  pairs = [];
}

-- the example's output
unfoldable pub example_output : String
example_output = "walk 2 A1\n0 . 2:0,0:0,1\n1 R 3:0,0,0:0,0,0\n2 - 1:0:0\n"

-- a line, and its text in print
pub record Printed : Type 0 where
  pub made : List ℕ
  pub print : String

-- an empty drawing number, a neutral class, a class with digits above 9, and a refusal
unfoldable pub printed_lines : List Printed
printed_lines =
    record { made = first_line 1024 []; print = "walk 1024\n" }
    ∷ record { made = line 10 0x4D (class 0 (0 ∷ 0 ∷ 0 ∷ []) (0 ∷ 0 ∷ 0 ∷ [])); print = "10 M 0::\n" }
    ∷ record { made = line 3 0x2D (class 3 (0x1f ∷ 0xabc ∷ 2 ∷ []) (0 ∷ 0x10 ∷ 0xf ∷ [])); print = "3 - 3:2,abc,1f:f,10,0\n" }
    ∷ record { made = refusal_line 102; print = "refused 102\n" }
    ∷ []
