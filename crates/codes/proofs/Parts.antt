-- A search among records that are part of others, behind some that have other codes: what it says of the others by their numbers.
use Rattle.std.proofs.Common.{ℕ, ◌+◌, ◌-◌, ◌*◌, ◌/◌, ◌<◌, ◌≤◌, ◌≡◌, ◌∙◌, sym, ap, subst, List, [], inl, inr, Some, None, length, get_or, drop, get_or-drop, length-take, length-drop, arith}
use Rattle.std.proofs.lemmas.Bool.{cases_lt}
use Rattle.std.specs.Simd.{first_chunks}
use Rattle.encoding.proofs.Chunks.{chunk_is, item_is}
use Rattle.codes.specs.OneCode.{code_of, NoneWith, NextWith}
use Rattle.codes.specs.declared.TheConstants.{IN_A_ROW}

-- none of so many has the code, where record j of them has that of number at + j
pub none_from : (part : List (List ℕ)) (code_by : ℕ → ℕ) (at : ℕ) {code many : ℕ}
    → ((j : ℕ) → j < many → code_of (get_or part j []) ≡ code_by (at + j)) → NoneWith part code many
    → (j : ℕ) → at ≤ j → j < at + many → code_by j ≡ code → ⊥
none_from part code_by at same none j behind before own =
    let here : at + (j - at) ≡ j = omega arith in none (j - at) (omega arith) (same (j - at) (omega arith) ∙ ap code_by here ∙ own)

-- these records stand in others, from this one on
pub record Part (records part : List (List ℕ)) (at : ℕ) : Type 0 where
  pub inside : at + length part ≤ length records
  pub same : (j : ℕ) → j < length part → get_or part j [] ≡ get_or records (at + j) []

module _ {records part : List (List ℕ)} {code at : ℕ} (lies : Part records part at) (before : NoneWith records code at) where
  none_more : {many : ℕ} → many ≤ length part → NoneWith part code many → NoneWith records code (at + many)
  none_more most none j below own =
      elim (cases_lt j at) [
        | inl earlier ↦ before j earlier own
        | inr later ↦
            none_from part (λ i. code_of (get_or records i [])) at (λ i inside. ap code_of (lies.same i (omega arith))) none j later below own
      ]

  pub found_in : {next : ℕ} → NextWith part code (Some next) → NextWith records code (Some (at + next))
  found_in (below, own, none) = (omega (arith, lies.inside), ap code_of (sym (lies.same _ below)) ∙ own, none_more (omega arith) none)

  pub none_in : {many : ℕ} → at + length part ≡ many → NextWith part code None → NoneWith records code many
  none_in end none = subst (NoneWith records code) end (none_more (omega arith) none)

-- the rows of so many records each, and the records behind them
module _ (records : List (List ℕ)) (rows : List (List (List ℕ))) (many : length rows ≡ length records / IN_A_ROW) where
  module _ (front : rows ≡ first_chunks IN_A_ROW (length records / IN_A_ROW) records) {row : ℕ} (below : row < length rows) where
    row_many : length (get_or rows row []) ≡ IN_A_ROW
    row_many = rw (front, chunk_is IN_A_ROW (length records / IN_A_ROW) records row [] (omega arith), length-take, length-drop) (omega arith)

    pub row_lies : Part records (get_or rows row []) (IN_A_ROW * row)
    row_lies =
        record {
          inside = omega (arith, row_many);
          same = λ j inside. rw front (item_is IN_A_ROW (length records / IN_A_ROW) records row j [] (omega arith) (omega (arith, row_many)));
        }

  module _ {rest : List (List ℕ)} (back : rest ≡ drop (length records / IN_A_ROW * IN_A_ROW) records) where
    pub rest_many : IN_A_ROW * length rows + length rest ≡ length records
    rest_many = omega (arith, ap length back, length-drop (length records / IN_A_ROW * IN_A_ROW) records)

    pub rest_lies : Part records rest (IN_A_ROW * length rows)
    rest_lies =
        let start : length records / IN_A_ROW * IN_A_ROW ≡ IN_A_ROW * length rows = omega arith in
        record { inside = omega (arith, rest_many); same = λ j inside. rw (back, start) (get_or-drop (IN_A_ROW * length rows) records j []) }
