use native.Mathlib.Omega.{arith}
use mathlib.Core.Path.{◌∙◌, sym}
use Rattle.records.specs.Records.{by_tag}
use Rattle.records.proofs.Cases.{record_is, record_none, tag_other}
use Rattle.records.proofs.records.next_record.Goals as goal

pub returns-then-remaining-eq0 : goal.returns-then-remaining-eq0
returns-then-remaining-eq0 c = record_none _ (sym c.remaining.ensures ∙ c.if-remaining-eq0.true)

pub returns-in-Ok-End : goal.returns-in-Ok-End
unfolding by_tag
returns-in-Ok-End c = record_is _ (omega arith) (sym c.byte.ensures ∙ sym (rw c.in-Ok-End.field-0-is at c.in-Ok-End.ensures)) c.read_end.ensures

pub returns-in-Ok-Rescale : goal.returns-in-Ok-Rescale
unfolding by_tag
returns-in-Ok-Rescale c = record_is _ (omega arith) (sym c.byte.ensures ∙ sym (rw c.in-Ok-Rescale.field-0-is at c.in-Ok-Rescale.ensures)) c.read_rescale.ensures

pub returns-in-Ok-Option : goal.returns-in-Ok-Option
unfolding by_tag
returns-in-Ok-Option c = record_is _ (omega arith) (sym c.byte.ensures ∙ sym (rw c.in-Ok-Option.field-0-is at c.in-Ok-Option.ensures)) c.read_option.ensures

pub returns-in-Ok-Feature : goal.returns-in-Ok-Feature
unfolding by_tag
returns-in-Ok-Feature c = record_is _ (omega arith) (sym c.byte.ensures ∙ sym (rw c.in-Ok-Feature.field-0-is at c.in-Ok-Feature.ensures)) c.read_feature.ensures

pub returns-in-Ok-Variable : goal.returns-in-Ok-Variable
unfolding by_tag
returns-in-Ok-Variable c = record_is _ (omega arith) (sym c.byte.ensures ∙ sym (rw c.in-Ok-Variable.field-0-is at c.in-Ok-Variable.ensures)) c.read_variable.ensures

pub returns-in-Ok-Place : goal.returns-in-Ok-Place
unfolding by_tag
returns-in-Ok-Place c = record_is _ (omega arith) (sym c.byte.ensures ∙ sym (rw c.in-Ok-Place.field-0-is at c.in-Ok-Place.ensures)) c.read_place.ensures

pub returns-in-Ok-Item : goal.returns-in-Ok-Item
unfolding by_tag
returns-in-Ok-Item c = record_is _ (omega arith) (sym c.byte.ensures ∙ sym (rw c.in-Ok-Item.field-0-is at c.in-Ok-Item.ensures)) c.read_item.ensures

pub returns-in-Ok-Points : goal.returns-in-Ok-Points
unfolding by_tag
returns-in-Ok-Points c = record_is _ (omega arith) (sym c.byte.ensures ∙ sym (rw c.in-Ok-Points.field-0-is at c.in-Ok-Points.ensures)) c.read_points.ensures

pub returns-in-Ok-Path : goal.returns-in-Ok-Path
unfolding by_tag
returns-in-Ok-Path c = record_is _ (omega arith) (sym c.byte.ensures ∙ sym (rw c.in-Ok-Path.field-0-is at c.in-Ok-Path.ensures)) c.read_path.ensures

pub returns-in-Err : goal.returns-in-Err
returns-in-Err c = record_is _ (omega arith) (sym c.byte.ensures) (tag_other _ _ c.in-Err.ensures)
