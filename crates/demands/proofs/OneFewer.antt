-- Two accepted sheets that differ in one byte of a count, which is smaller in the first, are such a pair as demand 3's second half speaks
-- of.
use Prim.Native.Nat.{ℕ, ◌<◌}
use mathlib.Core.Path.{◌≡◌, ap}
use mathlib.Core.Bool.{false}
use mathlib.Core.List.{List}
use lib.Dec.{eqb}
use lib.ListN.{length, set}
use borrow.Author.Tests.{eqb-false}
use Rattle.encoding.specs.Bytes.{byte}
use Rattle.units.specs.Conditions.{any}
use Rattle.units.specs.Words.{up_from}
use Rattle.units.proofs.Lists.{in_none}
use Rattle.layout.specs.Layout.{redesignation_size, size_of, mark}
use Rattle.outcome.specs.declared.Answer.{Answer}
use Rattle.tally.specs.Outcome.{records_in}
use Rattle.tally.specs.Accepted.{AcceptedAs}
use Rattle.alike.specs.Alike.{InCount}
use Rattle.alike.proofs.OneFewer.{alike_but_place, no_more_but_place}
use Rattle.demands.specs.Demand3.{FewerDefects, NeverWorse}
use Rattle.demands.proofs.NeverWorse.{demand3_fewer_defects}

module _ (bytes bytes' : List ℕ) (place fewer : ℕ) (stored : bytes ≡ set bytes' place fewer)
    (inside : place < length bytes') (less : fewer < byte bytes' place) (in_count : InCount bytes place) where
  one_fewer : (buffer buffer' : List ℕ) (answer answer' : Answer) (results results' : List ℕ)
      → AcceptedAs bytes buffer answer results → AcceptedAs bytes' buffer' answer' results'
      → any (λ i. eqb (size_of (mark bytes i)) redesignation_size) (up_from 0 (records_in bytes)) ≡ false
      → FewerDefects bytes bytes' buffer buffer' answer answer' results results'
  unfolding size_of
  one_fewer buffer buffer' answer answer' results results' first second none =
      record {
        first = first;
        second = second;
        alike = alike_but_place bytes bytes' place fewer stored inside less in_count;
        no_more = no_more_but_place bytes bytes' place fewer stored inside less in_count;
        no_redesignation = λ i h is.
            eqb-false (size_of (mark bytes i)) redesignation_size
            (in_none (records_in bytes) (λ j. eqb (size_of (mark bytes j)) redesignation_size) none i h) (ap size_of is);
      }

  -- and so demand 3 compares them
  pub one_fewer_compared : (buffer buffer' : List ℕ) (answer answer' : Answer) (results results' : List ℕ)
      → AcceptedAs bytes buffer answer results → AcceptedAs bytes' buffer' answer' results'
      → any (λ i. eqb (size_of (mark bytes i)) redesignation_size) (up_from 0 (records_in bytes)) ≡ false
      → NeverWorse bytes bytes' results results'
  one_fewer_compared buffer buffer' answer answer' results results' first second none =
      demand3_fewer_defects bytes bytes' buffer buffer' answer answer' results results'
      (one_fewer buffer buffer' answer answer' results results' first second none)
