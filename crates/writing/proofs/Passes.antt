-- The pass over the records, graded once and again: how far it has gone, from the opening past each record to the last. Graded once it goes by
-- the laws of the writing; graded again by those of records passed under one plan, the state outside step 3 with no failure just before.
use Prim.Native.Nat.{ℕ, suc, ◌≤◌, ◌<◌}
use mathlib.Core.Path.{◌≡◌, refl, ◌∙◌, ap, subst, subst⁻¹}
use mathlib.Core.Bool.{Bool, true, false}
use mathlib.Core.List.{List}
use native.Mathlib.Omega.{arith}
use lib.ListN.{length}
use Rattle.units.specs.Words.{Table}
use Rattle.rules.specs.StepThree.{in_force_in, restarted, opening}
use Rattle.rules.specs.declared.State.{State}
use Rattle.layout.specs.Walk.{first_place}
use Rattle.layout.specs.declared.Place.{Place}
use Rattle.single_plan.specs.Passing.{outside, Passable, opening_under}
use Rattle.single_plan.specs.Passing as single
use Rattle.single_plan.proofs.Passing as under
use Rattle.writing.specs.declared.Position.{Position}
use Rattle.writing.specs.Writable.{Writable}
use Rattle.writing.specs.Writing.{Further}
use Rattle.writing.specs.Passes.{reached_at, Met, some, none, NextReady, NextDone, Ready, Done}
use Rattle.writing.proofs.Passing.{index_at, further_one, further_on, underway_first, underway_on, record_here, further_first, all_done}
use Rattle.writing.proofs.Meeting.{passable, met_further}

-- graded once
pub record Once (bytes : List ℕ) (n : ℕ) (table : Table) (designated : ℕ) (old : List ℕ) (position : Position) (results : List ℕ) : Type 0 where
  pub writable : Writable bytes n table designated (length old)
  pub further : Further bytes n 0 old position results

-- graded again
pub record Again (bytes : List ℕ) (n : ℕ) (table : Table) (designated : ℕ) (old : List ℕ) (position : Position) (results : List ℕ) : Type 0 where
  pub ready : Passable bytes n designated (opening_under table designated) (length old)
  pub same_state : position.state ≡ outside designated position.state.cusums
  pub further : single.Further bytes n table designated false (opening_under table designated) old (reached_at position) results

unfoldable pub Going : Bool → List ℕ → ℕ → Table → ℕ → List ℕ → Position → List ℕ → Type 0
Going false = Once
Going true = Again

module _ (bytes : List ℕ) (n : ℕ) (table : Table) (designated : ℕ) (old : List ℕ) where
  -- before the first record
  pub going_first : (again : Bool) → Ready again bytes n table designated (length old) → {place : Place} → place ≡ first_place
      → {state : State} → state ≡ opening table designated → Going again bytes n table designated old (record { place = place; state = state }) old
  unfolding Going restarted in_force_in
  going_first false writable is_first is_opening = record { writable = writable; further = (further_first writable is_first is_opening old).0 }
  going_first true ready {place} is_first {state} is_opening =
      rw (is_first, is_opening) (record { ready = ready; same_state = refl; further = under.further_none ready.walk old })

  module _ (position : Position) (results : List ℕ) where
    pub going_length : (again : Bool) → Going again bytes n table designated old position results → length results ≡ length old
    unfolding Going
    going_length false once = once.further.same_length
    going_length true gone = gone.further.same_length

    pub going_within : (again : Bool) → Going again bytes n table designated old position results → position.place.index ≤ n
    unfolding Going
    going_within false once = once.further.within
    going_within true gone = gone.further.walk.inside

    -- the pass can go on under the designated plan
    pub going_passable : (again : Bool) → Going again bytes n table designated old position results
        → Passable bytes n position.state.designated (reached_at position) (length results)
    unfolding Going
    going_passable false once = passable (underway_on once.further (underway_first once.writable refl refl))
    going_passable true gone =
        subst⁻¹ (λ (grade : ℕ). Passable bytes n grade (reached_at position) (length results)) (ap (λ (s : State). s.designated) gone.same_state)
        (under.passable_on gone.further gone.ready)

    -- past units that meet and breaks
    pub going_met : (again : Bool) → Going again bytes n table designated old position results
        → (here : Position) (behind : List ℕ) → Met bytes n table position results here behind
        → Going again bytes n table designated old here behind × (position.place.index ≤ here.place.index)
    unfolding Going
    going_met false once here behind met =
        let more = met_further (underway_on once.further (underway_first once.writable refl refl)) met in
        (record { writable = once.writable; further = further_on once.further more }, more.not_back)
    going_met true gone here behind (some phase previous same_state more) =
        let same : position.state.designated ≡ designated = ap (λ (s : State). s.designated) gone.same_state in
        let on : single.Further bytes n table designated true (reached_at position) results (reached_at here) behind
        = subst (λ (grade : ℕ). single.Further bytes n table grade true (reached_at position) results (reached_at here) behind) same more in (
          record {
            ready = gone.ready;
            same_state = same_state ∙ ap (λ (grade : ℕ). outside grade here.state.cusums) same;
            further = under.further_on gone.further on;
          },
          under.passed_le on.passed,
        )
    going_met true gone here behind (none same same_results) = (rw (same, same_results) gone, omega (arith, ap (λ (p : Position). p.place.index) same))

    -- past any record
    pub next_ready : (again : Bool) → Going again bytes n table designated old position results → position.place.index < n
        → NextReady again bytes n table position (length results)
    next_ready false once below =
        unfold Going in record_here (underway_on once.further (underway_first once.writable refl refl)) below
    next_ready true gone below = (going_passable true gone, below)

    pub next_done : (again : Bool) → Going again bytes n table designated old position results → position.place.index < n
        → (here : Position) (behind : List ℕ) → NextDone again bytes n table position results here behind → length behind ≡ length results
        → Going again bytes n table designated old here behind × (here.place.index ≡ suc position.place.index)
    unfolding Going
    next_done false once below here behind (is_here, one) same =
        (record { writable = once.writable; further = further_one once.further below is_here one same }, index_at bytes n is_here)
    next_done true gone below here behind more same_size =
        let same : position.state.designated ≡ designated = ap (λ (s : State). s.designated) gone.same_state in (
          record {
            ready = gone.ready;
            same_state = more.same_state ∙ ap (λ (grade : ℕ). outside grade here.state.cusums) same;
            further =
                under.further_on gone.further
                (subst (λ (grade : ℕ). single.Further bytes n table grade false (reached_at position) results (reached_at here) behind) same more.further);
          },
          more.one,
        )

    -- behind the last record
    pub going_done : (again : Bool) → Going again bytes n table designated old position results → n ≤ position.place.index
        → Done again bytes n table designated old results
    unfolding Going
    going_done false once past = all_done once.writable once.further past
    going_done true gone past =
        let all : position.place.index ≡ n = omega (arith, gone.further.walk.inside) in
        record {
          cusums = position.state.cusums;
          passed =
              subst (λ (i : ℕ). single.Passed bytes table designated false 0 (opening_under table designated).cusums old i position.state.cusums results)
              all gone.further.passed;
        }
