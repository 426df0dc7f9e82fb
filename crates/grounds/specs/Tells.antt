-- A test of the definitions, and the statement that it stands for.
use Rattle.std.specs.Prelude.{◌≡◌, Bool, true, false}

-- a test is true exactly if a statement holds
pub record Tells (test : Bool) (Claim : Type 0) : Type 0 where
  pub so : test ≡ true → Claim
  pub not_so : test ≡ false → Claim → ⊥
