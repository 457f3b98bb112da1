use borrow.Author.Rules.{rules}
use native.Mathlib.Omega.{arith}
use mathlib.Core.Path.{◌∙◌, sym}
use Rattle.records.specs.Records.{cubics_of, polyline_of}
use Rattle.records.proofs.Cases.{path_closed, path_cut, path_form, path-is, path_role}
use Rattle.records.proofs.records.read_path.Goals as goal

pub returns-then-remaining-lt4 : goal.returns-then-remaining-lt4
returns-then-remaining-lt4 c = path_cut _ (omega arith)

pub returns-then-byte : goal.returns-then-byte
returns-then-byte c = path_role _ (omega arith)

pub returns-then-byte-gt1 : goal.returns-then-byte-gt1
returns-then-byte-gt1 c = path_closed _ (omega arith)

pub read_form-requires : goal.read_form-requires
read_form-requires c = (search rules, record { behind = omega arith; near = omega arith; short = omega arith })

pub read_form-requires-in-Ok-Polyline : goal.read_form-requires-in-Ok-Polyline
read_form-requires-in-Ok-Polyline c = (search rules, record { behind = omega arith; near = omega arith; short = omega arith })

pub returns-in-Ok-Cubics : goal.returns-in-Ok-Cubics
unfolding cubics_of
returns-in-Ok-Cubics c = path-is _ (omega arith) (omega arith) (omega arith) (sym c.byte-3.ensures ∙ sym (rw c.in-Ok-Cubics.field-0-is at c.in-Ok-Cubics.ensures)) c.read_form.ensures

pub returns-in-Ok-Polyline : goal.returns-in-Ok-Polyline
unfolding polyline_of
returns-in-Ok-Polyline c = path-is _ (omega arith) (omega arith) (omega arith) (sym c.byte-3.ensures ∙ sym (rw c.in-Ok-Polyline.field-0-is at c.in-Ok-Polyline.ensures)) c.read_form-in-Ok-Polyline.ensures

pub returns-in-Err : goal.returns-in-Err
returns-in-Err c = path_form _ (omega (arith, c.in-Err.ensures))
