-- A number in decimal: one digit below ten, else the digits of its tenth part and the last digit; it is what the library prints; how many
-- digits it has at most. From the definition, once more places than enough change nothing; the bound by induction on the places.
use Rattle.std.proofs.Common.{◌≡◌, ℕ, zero, suc, ◌+◌, ◌-◌, ◌/◌, ◌%◌, ◌^◌, ◌<◌, ◌≤◌, Bool, true, false, cond, [], ◌∷◌, ◌++◌, length, refl, ap, ◌∙◌, arith, length-append}
use native.Mathlib.Nat.{pow-suc}
use Rattle.std.proofs.lemmas.Bool.{ltb-false}
use borrow.Author.Tests.{ltb-true, lt-ltb, le-ltb}
use lib.Dec.{ltb}
use Rattle.std.specs.Fmt as printed
use Rattle.std.proofs.lemmas.Fmt.{AppendsLastDigit, decimal_from_appends, length-decimal-le_succ}
use Rattle.text.specs.Text.{point, digit, digits, decimal, one_decimal}
use Rattle.text.specs.Wrote.{word_size, number_digits, cusum_size}

enough_places : (places others value : ℕ) → value < places → value < others → digits places value ≡ digits others value
unfolding digits
enough_places zero others value enough enough' = absurd (omega arith)
enough_places (suc places) zero value enough enough' = absurd (omega arith)
enough_places (suc places) (suc others) value enough enough' = go (ltb value 10) refl (enough_places places others (value / 10))
  where
    go : (one : Bool) → ltb value 10 ≡ one
        → (value / 10 < places → value / 10 < others → digits places (value / 10) ≡ digits others (value / 10))
        → cond one (digit value ∷ []) (digits places (value / 10) ++ (digit (value % 10) ∷ []))
        ≡ cond one (digit value ∷ []) (digits others (value / 10) ++ (digit (value % 10) ∷ []))
    go true test same = refl
    go false test same =
        let more : 10 ≤ value = ltb-false value 10 test in
        rw (same (omega arith) (omega arith))

pub one_digit : (value : ℕ) → value < 10 → decimal value ≡ digit value ∷ []
unfolding decimal digits
one_digit value one = rw (lt-ltb value 10 one)

pub more_digits : (value : ℕ) → 10 ≤ value → decimal value ≡ decimal (value / 10) ++ (digit (value % 10) ∷ [])
unfolding decimal digits
more_digits value more =
    rw (le-ltb value 10 more, enough_places value (suc (value / 10)) (value / 10) (omega arith) (omega arith))

pub two_digits : (value : ℕ) → 10 ≤ value → value < 100 → decimal value ≡ digit (value / 10) ∷ digit (value % 10) ∷ []
two_digits value more two = rw (more_digits value more, one_digit (value / 10) (omega arith))

-- ---- as the library prints it

appends : AppendsLastDigit digits
unfolding digits
appends = record {
  one = λ places value one. rw (lt-ltb value 10 one);
  more = λ places value more. rw (le-ltb value 10 more);
}

pub as_printed : (value : ℕ) → value < 2 ^ 64 → decimal value ≡ printed.decimal value
unfolding decimal
as_printed value fits = decimal_from_appends digits appends (suc value) value fits (omega (arith, length-decimal-le_succ value fits))

-- ---- how long a number, a word, a number of two bytes and a CuSum are

-- room for a number of more than one digit is room for the digits before the last
pub length_more : (value : ℕ) → 10 ≤ value → length (decimal value) ≡ length (decimal (value / 10)) + 1
length_more value more = ap length (more_digits value more) ∙ length-append (decimal (value / 10)) (digit (value % 10) ∷ [])

pub length_decimal : (places value : ℕ) → 1 ≤ places → value < 10 ^ places → length (decimal value) ≤ places
length_decimal zero value some below = absurd (omega arith)
length_decimal (suc zero) value some below = rw (one_digit value below) (omega arith)
length_decimal (suc (suc places)) value some below = go (ltb value 10) refl (length_decimal (suc places) (value / 10) (omega arith))
  where
    go : (one : Bool) → ltb value 10 ≡ one → (value / 10 < 10 ^ suc places → length (decimal (value / 10)) ≤ suc places)
        → length (decimal value) ≤ suc (suc places)
    go true test shorter = rw (one_digit value (ltb-true value 10 test)) (omega arith)
    go false test shorter =
        omega (arith, length_more value (ltb-false value 10 test), shorter (omega (arith, pow-suc 10 (suc places))))

pub length_word : (value : ℕ) → value < 2 ^ 64 → length (decimal value) ≤ word_size
length_word value fits = length_decimal word_size value (omega arith) (omega arith)

pub length_number : (value : ℕ) → value < 2 ^ 16 → length (decimal value) ≤ number_digits
length_number value fits = length_decimal number_digits value (omega arith) (omega arith)

pub length_tenths : (tenths : ℕ) → length (one_decimal tenths) ≡ length (decimal (tenths / 10)) + 2
unfolding one_decimal
length_tenths tenths = length-append (decimal (tenths / 10)) (point ∷ digit (tenths % 10) ∷ [])

pub length_cusum : (tenths : ℕ) → tenths < 2 ^ 16 → length (one_decimal tenths) ≤ cusum_size
length_cusum tenths fits =
    omega (arith, length_tenths tenths, length_decimal (number_digits - 1) (tenths / 10) (omega arith) (omega arith))
