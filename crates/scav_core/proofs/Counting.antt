-- How often an address stands in what is to be done, on the board, and among the homes.
use Rattle.std.proofs.Common.{ℕ, suc, ◌<◌, ◌≤◌, ◌+◌, ◌^◌, ◌≡◌, ◌≢◌, ◌==◌, ◌⊎◌, inl}
use Rattle.std.proofs.Common.{inr, Bool, true, false, not, cond, List, []}
use Rattle.std.proofs.Common.{◌∷◌, ◌++◌, length, get_or, set, slice_get, Option, Some, arith, refl}
use Rattle.std.proofs.Common.{sym, ap, subst, ◌∙◌, eq-eqb, eqb-true}
use Rattle.std.specs.List.{Contains, AllPairs, count_by}
use Rattle.std.proofs.lemmas.Bool.{cases_Bool}
use Rattle.std.proofs.lemmas.List.Sums.{sum_by-cons, sum_by-set, sum_by-append}
use Rattle.std.proofs.lemmas.Option.{slice_get_within, get_or_from_slice_get}
use Rattle.tagged_word.specs.declared.word.Class.TheVariants.{Ref}
use Rattle.tagged_word.specs.Words.{bits_of}
use Rattle.tagged_word.specs.Readings.{reference_in}
use Rattle.tagged_word.proofs.Members.{first_in, rest_in, in_cases}
use Rattle.tagged_word.proofs.Readings.{reference_to}
use Rattle.core_parts.specs.Lists.{joined, left}
use Rattle.core_parts.proofs.Joining.{joined_at_end}
use Rattle.core_parts.proofs.Leaving.{left_out}
use Rattle.core_parts.proofs.Tested.{not_equal}
use Rattle.scav_copy.specs.declared.places.Home.{Home}
use Rattle.scav_copy.specs.Copies.{with_home}
use Rattle.scav_copy.proofs.Ascending.{by_place}
use Rattle.scav_core.specs.declared.workers.WorkerView.{WorkerView}
use Rattle.scav_core.specs.Worlds.{lent_view}
use Rattle.scav_core.specs.Underway.{times, todo_times, is_address, board_times, home_times}

-- 1 where a test passes, else 0
abbrev pub one : Bool → ℕ
one b = cond b 1 0

-- the count of a first element and the rest
pub count_first : {X : Type 0} (p : X → Bool) (x : X) (xs : List X) → count_by p (x ∷ xs) ≡ one (p x) + count_by p xs
count_first p x xs = sum_by-cons (λ x. one (p x)) x xs

-- the count of what is put behind
pub count_behind : {X : Type 0} (p : X → Bool) (xs : List X) (x : X)
    → count_by p (xs ++ x ∷ []) ≡ count_by p xs + one (p x)
count_behind p xs x =
    sum_by-append (λ x. one (p x)) xs (x ∷ []) ∙ ap (λ (n : ℕ). count_by p xs + n) (count_first p x [] ∙ omega arith)

-- what is counted first is there
counted_first : {X : Type 0} (p : X → Bool) (x : X) (b : Bool) (rest : ℕ) (Y : Type 0) → p x ≡ b → (p x ≡ true → Y)
    → (1 ≤ rest → Y) → 1 ≤ one b + rest → Y
counted_first p x true rest Y e now later some = now e
counted_first p x false rest Y e now later some = later (omega arith)

-- what is counted is there
pub counted : {X : Type 0} (p : X → Bool) (xs : List X) → 1 ≤ count_by p xs → (x : X) × Contains xs x × (p x ≡ true)
counted p [] some = absurd (omega arith)
counted {X} p (x ∷ xs) some =
    counted_first p x (p x) (count_by p xs) ((y : X) × Contains (x ∷ xs) y × (p y ≡ true)) refl
    (λ t. (x, first_in x xs, t))
    (λ more. let found = counted p xs more in (found.0, rest_in x xs found.0 found.1, found.2))
    (subst (λ (n : ℕ). 1 ≤ n) (count_first p x xs) some)

-- what passes the test at the head or in the rest is counted
pub is_counted : {X : Type 0} (p : X → Bool) (xs : List X) (x : X) → Contains xs x → p x ≡ true → 1 ≤ count_by p xs
is_counted p [] x there t = let (k, l, e) = there in omega arith
is_counted p (y ∷ xs) x there t =
    let e : count_by p (y ∷ xs) ≡ one (p y) + count_by p xs = count_first p y xs in
    elim (in_cases y xs x there) [
      | inl same ↦ let f : one (p y) ≡ 1 = ap (λ z. one (p z)) same ∙ ap one t in omega (arith, e, f)
      | inr rest ↦ let more : 1 ≤ count_by p xs = is_counted p xs x rest t in omega (arith, e, more)
    ]

-- where nothing passes, nothing is counted
pub none_counted : {X : Type 0} (p : X → Bool) (xs : List X) → ((x : X) → Contains xs x → p x ≡ false)
    → count_by p xs ≡ 0
none_counted p [] none = refl
none_counted p (x ∷ xs) none =
    let e : count_by p (x ∷ xs) ≡ one (p x) + count_by p xs = count_first p x xs in
    let first : one (p x) ≡ 0 = ap one (none x (first_in x xs)) in
    let rest : count_by p xs ≡ 0 = none_counted p xs (λ y there. none y (rest_in x xs y there)) in
    omega (arith, e, first, rest)

-- where an address does not stand, it is not in the list
not_in : (a : ℕ) (list : List ℕ) → times a list ≡ 0 → Contains list a → ⊥
not_in a list none there =
    let some : 1 ≤ times a list = is_counted (λ x. x == a) list a there (eq-eqb a a refl) in omega (arith, none, some)

-- an address that joins stands once more
pub times_joined : (a : ℕ) (list : List ℕ) (new : ℕ) → times new list ≡ 0
    → times a (joined list new) ≡ times a list + one (new == a)
times_joined a list new none =
    ap (times a) (joined_at_end list new (not_in new list none)) ∙ count_behind (λ x. x == a) list new

-- an address that leaves stands no more
pub times_left : (list : List ℕ) (a : ℕ) → times a (left list a) ≡ 0
times_left list a =
    none_counted (λ x. x == a) (left list a)
    (λ x there. not_equal x a (λ same. left_out list a (subst (Contains (left list a)) same there)))

-- the count of the rest, if the first leaves or stays
left_first : (x at a : ℕ) (xs : List ℕ) → at ≢ a → times a (left xs at) ≡ times a xs → (x == at) ≡ true
    ⊎ (x == at) ≡ false
    → times a (left (x ∷ xs) at) ≡ times a (x ∷ xs)
left_first x at a xs other rest (inl same) =
    let not_a : (x == a) ≡ false = not_equal x a (λ e. other (sym (eqb-true _ _ same) ∙ e)) in
    let e : times a (x ∷ xs) ≡ one (x == a) + times a xs = count_first (λ y. y == a) x xs in
    let zero : one (x == a) ≡ 0 = ap one not_a in
    ap (λ (b : Bool). times a (cond (not b) (x ∷ left xs at) (left xs at))) same ∙ rest ∙ omega (arith, e, zero)
left_first x at a xs other rest (inr apart) =
    ap (λ (b : Bool). times a (cond (not b) (x ∷ left xs at) (left xs at))) apart
    ∙ count_first (λ y. y == a) x (left xs at) ∙ ap (λ (n : ℕ). one (x == a) + n) rest
    ∙ sym (count_first (λ y. y == a) x xs)

-- others stand as often
pub times_stay : (list : List ℕ) (at a : ℕ) → at ≢ a → times a (left list at) ≡ times a list
times_stay [] at a other = refl
times_stay (x ∷ xs) at a other = left_first x at a xs other (times_stay xs at a other) (cases_Bool (x == at))

-- what is to be done, when one view changes
pub todo_set : (a : ℕ) (workers : List WorkerView) (worker : ℕ) (view new : WorkerView)
    → slice_get workers worker ≡ Some view
    → todo_times a (set workers worker new) + times a view.todo ≡ todo_times a workers + times a new.todo
todo_set a workers worker view new e =
    let within : worker < length workers = slice_get_within workers worker view e in
    let is : get_or workers worker view ≡ view = get_or_from_slice_get workers worker view view e in
    ap (λ (v : WorkerView). todo_times a (set workers worker new) + times a v.todo) (sym is)
    ∙ sum_by-set (λ (v : WorkerView). times a v.todo) workers worker new view within

-- one worker has to do no more than all
pub todo_one : (a : ℕ) (workers : List WorkerView) (worker : ℕ) (view : WorkerView) → slice_get workers worker
    ≡ Some view
    → times a view.todo ≤ todo_times a workers
todo_one a workers worker view e =
    let all : todo_times a (set workers worker lent_view) + times a view.todo ≡ todo_times a workers + 0 =
    todo_set a workers worker view lent_view e in
    omega (arith, all)

-- how often a word of the board refers to an address
abbrev pub refers_once : ℕ → ℕ → ℕ
refers_once a word = one (is_address a (reference_in word))

-- the board, when one of its words changes
pub board_set : (a : ℕ) (board : List ℕ) (place word : ℕ) → place < length board
    → board_times a (set board place word) + refers_once a (get_or board place 0)
    ≡ board_times a board + refers_once a word
board_set a board place word within = sum_by-set (λ (w : ℕ). refers_once a w) board place word 0 within

-- a word of the board counts no more than the board
pub board_one : (a : ℕ) (board : List ℕ) (place : ℕ) → place < length board
    → refers_once a (get_or board place 0) ≤ board_times a board
board_one a board place within =
    let all : board_times a (set board place 0) + refers_once a (get_or board place 0) ≡ board_times a board + 0 =
    board_set a board place 0 within in
    omega (arith, all)

-- the reference to an address refers to it once
pub refers_to : (a at : ℕ) → at < 2 ^ 32 → refers_once a (bits_of (Ref at)) ≡ one (at == a)
refers_to a at fits = ap (λ (o : Option ℕ). one (is_address a o)) (reference_to (bits_of (Ref at)) at fits refl)

-- how many homes stand at an address, when one joins
pub homes_joined : (a : ℕ) (homes : List Home) (new : Home)
    → home_times a (with_home homes new) ≡ home_times a homes + one (new.to == a)
homes_joined a [] new = count_first (λ (home : Home). home.to == a) new [] ∙ omega arith
homes_joined a (home ∷ homes) new =
    let p : Home → Bool = λ home. home.to == a in
    let e : home_times a (home ∷ homes) ≡ one (home.to == a) + home_times a homes = count_first p home homes in
    by_place (λ all. home_times a all ≡ home_times a (home ∷ homes) + one (new.to == a)) home homes new
    (λ less. count_first p new (home ∷ homes) ∙ omega arith)
    (λ more.
    let f : home_times a (with_home homes new) ≡ home_times a homes + one (new.to == a) = homes_joined a homes new in
    count_first p home (with_home homes new) ∙ omega (arith, e, f))

-- no address is the home of two
abbrev pub HasOneEach : List Home → Type 0
HasOneEach homes = AllPairs (λ one other. one.to ≢ other.to) homes

-- where the first stands at the address, no other does
first_alone : (a : ℕ) (home : Home) (homes : List Home) (b : Bool) → (home.to == a) ≡ b → HasOneEach (home ∷ homes)
    → home_times a homes ≤ 1 → one b + home_times a homes ≤ 1
first_alone a home homes true e each rest =
    let none : home_times a homes ≡ 0 = none_counted (λ (other : Home). other.to == a) homes
    (λ other there. let (k, l, f) = there in
    let apart : home.to ≢ (get_or homes k other).to = each 0 (suc k) other (omega arith) (omega arith) in
    not_equal other.to a (λ same. apart (eqb-true _ _ e ∙ sym same ∙ ap (λ (x : Home). x.to) (sym f)))) in
    omega (arith, none)
first_alone a home homes false e each rest = omega (arith, rest)

-- at most one home stands at an address
pub home_once : (a : ℕ) (homes : List Home) → HasOneEach homes → home_times a homes ≤ 1
home_once a [] each = omega arith
home_once a (home ∷ homes) each =
    let rest : home_times a homes ≤ 1 =
    home_once a homes (λ i j d less within. each (suc i) (suc j) d (omega arith) (omega arith)) in
    subst (λ (n : ℕ). n ≤ 1) (sym (count_first (λ (other : Home). other.to == a) home homes))
    (first_alone a home homes (home.to == a) refl each rest)
