-- What is recorded of a unit that is graded under the plan designated for it, outside step 3.
use Rattle.std.specs.Prelude.{ℕ, cond}
use Rattle.units.specs.Words.{worse}
use Rattle.units.specs.declared.SampleUnit.{SampleUnit}
use Rattle.units.specs.declared.Grading.{Grading}
use Rattle.results.specs.declared.ResultRecord.{ResultRecord}

-- but for its code grade: the portion grade is the worse of defect grade and prerequisite grade; standing: 0 met the plan, 1 failed it
unfoldable pub result_under : ℕ → SampleUnit → Grading → ResultRecord
result_under designated unit grading =
    record {
      code = unit.code;
      portion = worse grading.grade unit.prerequisite;
      plan = designated;
      standing = cond grading.fails 1 0;
      cusums = grading.cusums;
      overshoots = grading.overshoots;
    }
