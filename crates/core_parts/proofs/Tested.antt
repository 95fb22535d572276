-- What tests of numbers and of lists tell.
use Rattle.std.proofs.Common.{ℕ, ◌<◌, ◌≡◌, ◌≢◌, ◌==◌, ◌↔◌, Bool, true, false, nat_lt, IsTrue, List}
use Rattle.std.proofs.Common.{Contains, refl, sym, arith}
use Rattle.std.proofs.lemmas.Bool.Decides.{nat_tests}
use Rattle.core_parts.specs.Lists.{is_in}
use Rattle.core_parts.proofs.Joining.{found_in, not_found}

-- a number that is below another is found so
pub nat_lt-yes : (a b : ℕ) → a < b → nat_lt a b ≡ true
nat_lt-yes a b less = grind (arith, nat_tests)

-- two numbers that are not equal are found so
pub not_equal : (a b : ℕ) → a ≢ b → (a == b) ≡ false
not_equal a b other = grind (arith, nat_tests)

-- a test that tells what a list contains is that of the list
pub same_test : (list : List ℕ) (a : ℕ) (r : Bool) → IsTrue r ↔ Contains list a → r ≡ is_in list a
same_test list a true tells = sym (found_in list a (tells.0 refl))
same_test list a false tells = sym (not_found list a (λ there. let t : false ≡ true = tells.1 there in cc))
