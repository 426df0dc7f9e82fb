-- The records of a mold sheet as the code cuts them, whole ones and what is left behind the last, and how its loop over them follows the
-- check from left to right.
use Rattle.std.proofs.Common.{◌≡◌, ℕ, ◌+◌, ◌-◌, ◌*◌, ◌/◌, ◌≤◌, ◌<◌, min, List, length, get_or, take, drop, sym, ◌∙◌, ap, lit<, arith, rules, add-one, add-zero, length-drop}
use Rattle.std.proofs.lemmas.Bool.Decides.{nat_tests}
use Rattle.std.proofs.lemmas.List.{places, take_all, take_rest, drop-drop}
use Rattle.std.specs.Simd.{first_chunks}
use Rattle.encoding.proofs.Chunks.{chunk_is}
use Rattle.outcome.specs.Outcome.{accepted_as, refused_as}
use Rattle.outcome.specs.declared.Answer.{Answer}
use Rattle.sheet.proofs.LeftToRight.{check_done, check_more, check_refused}
use Rattle.mold.specs.Layout.{opening_size, unit_size, offset, mold_unit_at}
use Rattle.mold.specs.Refusals.{no_unit_mark, unit_refusal, record_refusal, check_from}
use Rattle.mold.proofs.Checking.{further}

-- ---- the loop

-- so many units have passed
abbrev pub Stands : List ℕ → ℕ → Type 0
Stands bytes units = check_from bytes (length bytes) 0 ≡ check_from bytes (length bytes - units) units

pub all_stand : (bytes : List ℕ) {units : ℕ} (all : ℕ) → Stands bytes units → units ≡ all → Stands bytes all
all_stand bytes all stands e = rw (← e) stands

-- the record behind them, up to its size or to the end of the sheet
pub record Next (bytes : List ℕ) (units : ℕ) (part : List ℕ) : Type 0 where
  pub inside : offset units < length bytes
  pub is : part ≡ take unit_size (drop (offset units) bytes)

-- its refusal reads no more of the sheet
record_alone : (bytes : List ℕ) (at units : ℕ) → unit_refusal (take unit_size (drop at bytes)) 0 units ≡ unit_refusal bytes at units
unfolding unit_refusal no_unit_mark mold_unit_at
record_alone bytes at units =
    let byte_of : (k : ℕ) → k < unit_size → get_or (take unit_size (drop at bytes)) k 0 ≡ get_or bytes (at + k) 0
    = λ k h. grind (arith, places) in
    let size : length (take unit_size (drop at bytes)) ≡ min unit_size (length bytes - at) = search (rules, places) in
    rw (size, byte_of 0 (lit< tt), byte_of 1 (lit< tt), byte_of 4 (lit< tt), add-zero at) (grind (arith, nat_tests))

module _ {bytes part : List ℕ} {units number : ℕ} (next : Next bytes units part) (stands : Stands bytes units)
    (e : number ≡ unit_refusal part 0 units) where
  refusal_here : number ≡ record_refusal bytes units
  refusal_here = e ∙ rw next.is (record_alone bytes (offset units) units)

  pub next_refused : {answer : Answer} → (0 < number) × (answer ≡ refused_as number (offset units))
      → answer ≡ check_from bytes (length bytes) 0
  next_refused (refused, is) =
      is ∙ rw refusal_here (sym (stands ∙ check_refused _ _ _ _ _ further units next.inside (λ none. omega (arith, refusal_here, none))))

  pub next_passed : number ≡ 0 → Stands bytes (units + 1)
  next_passed passed = rw (add-one units) (stands ∙ check_more _ _ _ _ _ further units next.inside (sym refusal_here ∙ passed))

-- ---- the records that the sheet is cut into

-- what stands behind the opening, as the code takes it
abbrev behind : List ℕ → List ℕ
behind bytes = take (length bytes - opening_size) (drop opening_size bytes)

module _ (bytes : List ℕ) (records : List (List ℕ)) (many : length records ≡ length (behind bytes) / unit_size) where
  behind_size : length (behind bytes) ≡ length bytes - opening_size
  behind_size = rw (take_rest bytes opening_size) (length-drop opening_size bytes)

  pub whole : records ≡ first_chunks unit_size (length (behind bytes) / unit_size) (behind bytes) → (units : ℕ) (d : List ℕ)
      → units < length records → Next bytes units (get_or records units d)
  whole front units d below =
      record {
        inside = omega (arith, behind_size);
        is =
            rw (front, chunk_is unit_size (length (behind bytes) / unit_size) (behind bytes) units d (omega arith), take_rest bytes opening_size)
            (ap (take unit_size) (drop-drop (unit_size * units) opening_size bytes));
      }

  -- what is left behind them
  module _ (opening : opening_size ≤ length bytes) {rest : List ℕ}
      (back : rest ≡ drop (length (behind bytes) / unit_size * unit_size) (behind bytes)) where
    rest_is : rest ≡ drop (offset (length records)) bytes
    rest_is =
        back ∙ rw (take_rest bytes opening_size)
        (drop-drop (length (drop opening_size bytes) / unit_size * unit_size) opening_size bytes
        ∙ ap (λ (at : ℕ). drop at bytes) (omega (arith, ap length (take_rest bytes opening_size))))

    pub rest_size : offset (length records) + length rest ≡ length bytes
    rest_size = omega (arith, behind_size, ap length rest_is, length-drop (offset (length records)) bytes)

    pub left : (length rest ≡ 0 → ⊥) → Next bytes (length records) rest
    left some =
        record {
          inside = omega (arith, rest_size);
          is =
              rest_is
              ∙ sym (take_all unit_size (drop (offset (length records)) bytes) (omega (arith, ap length rest_is, rest_size, behind_size)));
        }

    pub none_left : length rest ≡ 0 → Stands bytes (length records)
        → accepted_as (length records) (length bytes) ≡ check_from bytes (length bytes) 0
    none_left none stands = sym (stands ∙ check_done _ _ _ _ _ (length bytes - length records) (length records) (omega (arith, rest_size)))
