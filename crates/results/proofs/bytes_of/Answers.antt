-- Byte for byte the definition: the lowest bytes of each number.
use Prim.Native.Nat.{ℕ}
use mathlib.Core.Path.{◌≡◌}
use mathlib.Core.List.{[], ◌∷◌}
use lib.ListN.{get_or}
use Rattle.std.specs.Int.{w16, w32, w64, to_be_bytes}
use Rattle.encoding.proofs.Numbers.{lowest_two, lowest_four}
use Rattle.units.specs.Words.{tenths_in, overshoot_for}
use Rattle.results.specs.declared.ResultRecord.{ResultRecord}
use Rattle.results.specs.Record.{result_bytes, class_bytes}
use Rattle.results.proofs.bytes_of.Goals as goal

abbrev cusum_byte : ResultRecord → ℕ → ℕ → ℕ
cusum_byte result class k = get_or (to_be_bytes w32 (tenths_in result.cusums class)) k 0

abbrev overshoot_byte : ResultRecord → ℕ → ℕ → ℕ
overshoot_byte result class k = get_or (to_be_bytes w64 (overshoot_for result.overshoots class)) k 0

spelled : (grade : ℕ) (result : ResultRecord) →
    0x47 ∷ 0x52 ∷ get_or (to_be_bytes w16 result.code) 0 0 ∷ get_or (to_be_bytes w16 result.code) 1 0
    ∷ result.portion ∷ grade ∷ result.plan ∷ result.standing
    ∷ cusum_byte result 0 2 ∷ cusum_byte result 0 3 ∷ cusum_byte result 1 2 ∷ cusum_byte result 1 3
    ∷ cusum_byte result 2 2 ∷ cusum_byte result 2 3 ∷ cusum_byte result 3 2 ∷ cusum_byte result 3 3
    ∷ overshoot_byte result 0 4 ∷ overshoot_byte result 0 5 ∷ overshoot_byte result 0 6 ∷ overshoot_byte result 0 7
    ∷ overshoot_byte result 1 4 ∷ overshoot_byte result 1 5 ∷ overshoot_byte result 1 6 ∷ overshoot_byte result 1 7
    ∷ overshoot_byte result 2 4 ∷ overshoot_byte result 2 5 ∷ overshoot_byte result 2 6 ∷ overshoot_byte result 2 7
    ∷ overshoot_byte result 3 4 ∷ overshoot_byte result 3 5 ∷ overshoot_byte result 3 6 ∷ overshoot_byte result 3 7 ∷ []
    ≡ result_bytes grade result
unfolding result_bytes class_bytes
spelled grade result =
    let cusum = tenths_in result.cusums in
    let over = overshoot_for result.overshoots in
    rw (
      lowest_two (cusum 0),
      lowest_two (cusum 1),
      lowest_two (cusum 2),
      lowest_two (cusum 3),
      lowest_four (over 0),
      lowest_four (over 1),
      lowest_four (over 2),
      lowest_four (over 3),
    )

pub returns : goal.returns
returns c =
    rw (
      c.to_be_bytes-code.ensures,
      c.to_be_bytes-critical.ensures,
      c.to_be_bytes-severe.ensures,
      c.to_be_bytes-major.ensures,
      c.to_be_bytes-total.ensures,
      c.to_be_bytes-over_critical.ensures,
      c.to_be_bytes-over_severe.ensures,
      c.to_be_bytes-over_major.ensures,
      c.to_be_bytes-over_total.ensures,
    )
    (spelled c.args.grade c.args.res)
