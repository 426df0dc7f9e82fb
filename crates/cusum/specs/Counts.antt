-- The two counts of the papers, and what each is in tenths. Nothing adds or compares them: only in tenths do both go through rule 2.
use Rattle.std.specs.Prelude.{ℕ, ◌*◌}
use Rattle.cusum.specs.declared.Defects.{Defects}
use Rattle.cusum.specs.declared.DefectiveFields.{DefectiveFields}

-- ten times a number: of either count one is ten tenths
abbrev pub ten_times : ℕ → ℕ
ten_times number = 10 * number

-- a defect is ten tenths
abbrev pub defect_tenths : Defects → ℕ
defect_tenths defects = ten_times defects.0

-- and so is a defective field, which is one however many defects it holds
abbrev pub field_tenths : DefectiveFields → ℕ
field_tenths fields = ten_times fields.0
