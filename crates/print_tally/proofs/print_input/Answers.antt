-- What was read is the whole input, or, as the input itself, too much for a sheet; so both are printed alike.
use Rattle.std.proofs.Common.{◌≡◌, ℕ, ◌+◌, ◌<◌, List, [], ◌++◌, None, Some, IfSome, OnOk, inl, inr, rules, arith, length, sym, ap, ◌∙◌, subst, append-nil, length-append}
use Rattle.std.proofs.lemmas.Bool.{cases_lt}
use Rattle.std.proofs.Math.Seq.{take-length}
use Rattle.std.proofs.lemmas.Result.{on_ok_weaker}
use Rattle.std.specs.Prelude.{Option, Result}
use Rattle.std.specs.Io.KnownBytes.{Appends, Consumes, IsAtEnd}
use Rattle.text.specs.Text.{largest_input}
use Rattle.text.proofs.Printed.{too_much}
use Rattle.lines.specs.Lines.{tally_sheet, printed}
use Rattle.print_tally.proofs.print_input.Goals as goal

module _ (read : List ℕ) where
  printed_alike : (sheet rest : List ℕ) → sheet ≡ read ++ rest → (length read < largest_input + 1 → rest ≡ []) → printed read ≡ printed sheet
  printed_alike sheet rest front whole =
      elim (cases_lt largest_input (length read)) [
        | inl above ↦
            let more : largest_input < length sheet = omega (arith, ap length front, length-append read rest) in
            too_much tally_sheet read above ∙ sym (too_much tally_sheet sheet more)
        | inr within ↦
            let ended = whole (omega arith) in
            ap printed (sym (append-nil read) ∙ ap (λ (more : List ℕ). read ++ more) (sym ended) ∙ sym front)
      ]

  of_whole_input : (before after : Option (List ℕ)) (P : List ℕ → Type 0)
      → Consumes before after read → (length read < largest_input + 1 → IsAtEnd after)
      → P (printed read) → IfSome before (λ sheet. P (printed sheet))
  of_whole_input None after P front whole holds = tt
  of_whole_input (Some sheet) None P front whole holds = absurd front
  of_whole_input (Some sheet) (Some rest) P front whole holds = subst P (printed_alike sheet rest front whole) holds

  -- what is given to be printed is what was read
  of_given : {E : Type 0} (result : Result (Unit {0}) E) (P : List ℕ → Type 0) (given : List ℕ) → OnOk result (P (printed given)) → given ≡ read → OnOk result (P (printed read))
  of_given result P given holds same = subst (λ bytes. OnOk result (P (printed bytes))) same holds

pub returns : goal.returns
returns g c =
    let read = c.in_ok-sheet.ensures in
    let sheet = c.in_ok-sheet.sheet.now in
    let before = g.R.Read.remaining c.args.input.now in
    let Prints = Appends (g.W.Write.contents c.args.out.now) (g.W.Write.contents c.print_sheet.new.out) in
    on_ok_weaker
    {P = Prints (printed sheet)}
    {Q = IfSome before (λ input. Prints (printed input))}
    c.print_sheet.result
    (of_whole_input sheet before (g.R.Read.remaining c.read_input.new.input) Prints read.front read.whole)
    (of_given sheet c.print_sheet.result Prints _ c.print_sheet.ensures (search (rules, take-length)))
