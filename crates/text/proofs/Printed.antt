-- What is printed in each case of an input: too long, accepted, refused; and how long a refusal is. From the definitions, by what each test
-- says.
use Prim.Native.Nat.{ℕ, ◌+◌, ◌*◌, ◌^◌, ◌<◌, ◌≤◌}
use mathlib.Core.Path.{◌≡◌, refl, sym, ◌∙◌, ap}
use mathlib.Core.List.{List, ◌++◌, append_assoc}
use native.Mathlib.Omega.{arith}
use borrow.Author.Tests.{lt-ltb, le-ltb, eq-eqb, ne_eqb}
use lib.ListN.{length, drop, length-append}
use Rattle.outcome.specs.declared.Answer.{Answer}
use Rattle.outcome.specs.Outcome.{Outcome}
use Rattle.text.specs.Ascii.{ascii}
use Rattle.text.specs.Text.{digits, decimal, rest_of_line, line_with, lines_by, refused_line, text_by, largest_input, too_much_input, SheetKind, printed_as, Printing, leaving}
use Rattle.text.specs.TextCases.{TextCases}
use Rattle.text.specs.Wrote.{word_size, longest_refusal}
use Rattle.text.proofs.Decimals.{length_decimal}

-- ---- the cases

module _ (kind : SheetKind) (input : List ℕ) where
  pub too_much : largest_input < length input → printed_as kind input ≡ refused_line too_much_input largest_input
  unfolding printed_as
  too_much above = rw (lt-ltb largest_input (length input) above)

  any_other : length input ≤ largest_input
      → printed_as kind input
      ≡ text_by (kind.outcome input kind.buffer).answer (kind.line input (kind.outcome input kind.buffer).buffer)
  unfolding printed_as
  any_other within = rw (le-ltb largest_input (length input) within)

  module _ (answer : Answer) (results : List ℕ)
      (promise : ◌≡◌ {A = Outcome} (record { answer = answer; buffer = results }) (kind.outcome input kind.buffer)) where
    pub printed_text : length input ≤ largest_input → printed_as kind input ≡ text_by answer (kind.line input results)
    printed_text within = any_other within ∙ sym (ap (λ (given : Outcome). text_by given.answer (kind.line input given.buffer)) promise)

    pub lines_printed : length input ≤ largest_input → answer.number ≡ 0 → printed_as kind input ≡ lines_by (kind.line input results) answer.units
    unfolding text_by
    lines_printed within accepted = printed_text within ∙ rw (eq-eqb answer.number 0 accepted)

    pub refusal_printed : length input ≤ largest_input → (answer.number ≡ 0 → ⊥)
        → printed_as kind input ≡ refused_line answer.number answer.offset
    unfolding text_by
    refusal_printed within refused = printed_text within ∙ rw (ne_eqb answer.number 0 refused)

-- ---- a refusal

pub length_refusal : (number offset : ℕ)
    → length (refused_line number offset)
    ≡ length (ascii "refused") + (1 + length (decimal number)) + (1 + length (decimal offset)) + 1
unfolding refused_line line_with rest_of_line
length_refusal number offset = simp length-append (omega arith)

pub refused_line_holds : (number offset : ℕ) → refused_line number offset ≡ ascii "refused " ++ decimal number ++ ascii " " ++ decimal offset ++ ascii "\n"
unfolding rest_of_line line_with refused_line
refused_line_holds number offset = simp append_assoc

pub too_much_line : refused_line too_much_input largest_input ≡ ascii "refused 15 65536\n"
unfolding digits decimal rest_of_line line_with refused_line
too_much_line = refl

-- the cases in the paper's words
pub text_cases : (kind : SheetKind) → TextCases kind (printed_as kind)
text_cases kind =
    record {
      too_much = λ input above. too_much kind input above ∙ too_much_line;
      any_other = any_other kind;
      refused = λ input number offset within some promise.
          refusal_printed kind input _ _ (sym promise) within (λ none. omega arith) ∙ refused_line_holds number offset;
      accepted = λ input results units offset within promise. lines_printed kind input _ _ (sym promise) within refl;
    }

-- no refusal is longer: the word, and two numbers of at most so many digits as one of 64 bits
pub short_refusal : (number offset : ℕ) → number < 10 ^ word_size → offset < 10 ^ word_size
    → length (refused_line number offset) ≤ length (ascii "refused") + 2 * (1 + word_size) + 1
short_refusal number offset numbered placed =
    omega (
      arith,
      length_refusal number offset,
      length_decimal word_size number (omega arith) numbered,
      length_decimal word_size offset (omega arith) placed,
    )

-- so one of two words has room
pub refusal_fits : (number offset : ℕ) → number < 2 ^ 64 → offset < 2 ^ 64 → length (refused_line number offset) ≤ longest_refusal
refusal_fits number offset numbered placed = omega (arith, short_refusal number offset (omega arith) (omega arith))

-- ---- the caller's text

-- what is printed lies inside it
pub text_inside : (printed before : List ℕ) {after : List ℕ} {end : ℕ}
    → ◌≡◌ {A = Printing} (record { size = end; text = after }) (leaving printed before) → end ≤ length after
unfolding leaving
text_inside printed before promise =
    let size = ap (λ (given : Printing). given.size) promise in
    let whole = ap (λ (given : Printing). length given.text) promise in
    omega (arith, size, whole, length-append printed (drop (length printed) before))
