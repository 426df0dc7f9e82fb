-- The layout and the levels in the paper's numbers, by computation.
use mathlib.Core.Path.{refl}
use Rattle.mold.specs.Levels.{level_numbers}
use Rattle.mold.specs.Layout.{mold_unit_at}
use Rattle.mold_demands.specs.MoldBytes.{MoldPlaces, MoldLevels, MoldLayout}

places : MoldPlaces
unfolding mold_unit_at
places =
    record {
      opening = refl;
      level_row_holds = λ bytes. refl;
      numbers = λ bytes. refl;
      unit = refl;
      place = λ i. refl;
      code = λ bytes i. refl;
      fields_behind_code = refl;
      positive_fields = λ bytes i. refl;
      result = refl;
      result_mark = λ results i. refl;
      met = λ results i. refl;
      cusum = λ results i. refl;
    }

levels : MoldLevels
unfolding level_numbers
levels = record { level_5 = refl; level_10 = refl; level_12 = refl; level_15 = refl; level_20 = refl; level_25 = refl }

pub mold_layout : MoldLayout
mold_layout = record { places = places; levels = levels }
