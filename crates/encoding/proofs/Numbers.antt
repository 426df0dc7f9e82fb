-- Bytes and numbers read back: behind other bytes as if these were not there, and the bytes of a number as that number, if they are
-- wide enough for it. By what a list holds behind another, by induction on the width, and omega.
use Prim.Native.Nat.{ℕ, zero, suc, ◌+◌, ◌*◌, ◌/◌, ◌%◌, ◌^◌, ◌<◌}
use mathlib.Core.Path.{◌≡◌, refl, ◌∙◌, ap, ap₂}
use mathlib.Core.List.{List, [], ◌∷◌, ◌++◌, append_assoc}
use native.Mathlib.Nat.{add_assoc, add-zero}
use native.Mathlib.Omega.{arith}
use lib.ListN.{length, length-append}
use lib.Seq.{get_or-append-add}
use Rattle.std.specs.Int.{bytes_high_first}
use Rattle.encoding.specs.Bytes.{byte, number, high, low, wide_number, bytes_of}

pub byte_behind : (xs ys : List ℕ) (at : ℕ) → byte (xs ++ ys) (length xs + at) ≡ byte ys at
byte_behind xs ys at = get_or-append-add xs ys at 0

pub number_behind : (xs ys : List ℕ) (at : ℕ) → number (xs ++ ys) (length xs + at) ≡ number ys at
number_behind xs ys at = rw (add_assoc (length xs) at 1, get_or-append-add xs ys at 0, get_or-append-add xs ys (at + 1) 0)

pub high_low : (value : ℕ) (rest : List ℕ) → value < 65536 → number (high value ∷ low value ∷ rest) 0 ≡ value
high_low value rest small = let both : 256 * high value + low value ≡ value = omega arith in both

-- ---- of any width

pub wide_behind : (width : ℕ) (xs ys : List ℕ) (at : ℕ) → wide_number width (xs ++ ys) (length xs + at) ≡ wide_number width ys at
unfolding wide_number
wide_behind zero xs ys at = refl
wide_behind (suc width) xs ys at =
    ap₂ (λ (higher last : ℕ). 256 * higher + last) (wide_behind width xs ys at)
    (ap (byte (xs ++ ys)) (add_assoc (length xs) at width) ∙ byte_behind xs ys (at + width))

-- a number of two bytes is one of width 2
pub number_is_wide : (bytes : List ℕ) (at : ℕ) → number bytes at ≡ wide_number 2 bytes at
unfolding wide_number
number_is_wide bytes at = rw (add-zero at) (omega arith)

pub length_bytes : (width value : ℕ) → length (bytes_of width value) ≡ width
unfolding bytes_of
length_bytes zero value = refl
length_bytes (suc width) value = length-append (bytes_of width (value / 256)) (value % 256 ∷ []) ∙ omega (arith, length_bytes width (value / 256))

-- so many bytes hold a number below that power of 256
pub bytes_read : (width value : ℕ) (rest : List ℕ) → value < 256 ^ width → wide_number width (bytes_of width value ++ rest) 0 ≡ value
unfolding wide_number bytes_of
bytes_read zero value rest small = omega arith
bytes_read (suc width) value rest small =
    let higher = bytes_of width (value / 256) in
    let behind = value % 256 ∷ rest in
    let split : (higher ++ (value % 256 ∷ [])) ++ rest ≡ higher ++ behind = append_assoc higher (value % 256 ∷ []) rest in
    let last : 0 + width ≡ length higher + 0 = omega (arith, length_bytes width (value / 256)) in
    rw split
    (ap₂ (λ (x y : ℕ). 256 * x + y)
    (bytes_read width (value / 256) behind (omega arith)) (ap (byte (higher ++ behind)) last ∙ byte_behind higher behind 0)
    ∙ omega arith)

-- ---- as the library writes them: a byte's place is a power of 256, or as many divisions

pub lowest_two : (value : ℕ) → bytes_of 2 value ≡ bytes_high_first 2 value
unfolding bytes_of
lowest_two value = refl

pub lowest_four : (value : ℕ) → bytes_of 4 value ≡ bytes_high_first 4 value
unfolding bytes_of
lowest_four value =
    let third : value / 256 / 256 / 256 ≡ value / 256 ^ 3 = omega arith in
    let second : value / 256 / 256 ≡ value / 256 ^ 2 = omega arith in
    rw (third, second)
