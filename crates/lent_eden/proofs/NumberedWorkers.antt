-- Workers by their numbers: their copies as those of segments, and the words of all together.
use Rattle.std.proofs.Common.{◌≡◌, ◌∙◌, ℕ, suc, ◌+◌, ◌<◌, inl, inr, List, [], ◌∷◌, ◌++◌, length, map, slice_get, Some}
use Rattle.std.proofs.Common.{refl, sym, ap, subst, arith, ◌≤◌, ◌↔◌}
use Rattle.std.specs.List.{Contains, range_with_len}
use Rattle.std.proofs.lemmas.List.Sums.{sum_by-append, sum_by-cons}
use Rattle.std.proofs.lemmas.Option.{slice_get-get_or}
use Rattle.tagged_word.proofs.Cells.{some_same}
use Rattle.tagged_word.proofs.Members.{first_in, rest_in, in_cases, map_from}
use Rattle.page_space.specs.Extents.{Space}
use Rattle.shared_table.specs.Owned.{Own}
use Rattle.scav_copy.specs.declared.places.Home.{Home}
use Rattle.scav_copy.specs.Places.{Fixed, size_of}
use Rattle.scav_copy.proofs.Spots.{none_in}
use Rattle.scavenger.specs.Starts.{SegmentCopies, segment_from}
use Rattle.scavenger.specs.Filling.{Tiles, homes_in, words_of_homes, words_of_segments}
use Rattle.scavenger.proofs.FollowTiles.{same_with_home}
use Rattle.scavenger.proofs.SegmentRooms.{segments_apart}
use Rattle.scavenger.proofs.Sums.{joined_sum}
use Rattle.eden_copies.specs.Eden.{size_in}
use Rattle.eden_copies.specs.Sides.{WorkerSide}
use Rattle.eden_copies.specs.Copied.{AreTiled}
use Rattle.eden_copies.specs.Together.{Finished, homes_of}
use Rattle.eden_copies.specs.PutBack.{in_order}
use Rattle.handed_rooms.specs.Laws.{AreAllBeside, workers_of}
use Rattle.lent_eden.specs.Handed.{copies_from, copies_of, words_by}

-- a worker by its number
pub record HasNumber (all : List Finished) (one : Finished) : Type 0 where
  pub number : ℕ
  pub inside : number < length all
  pub stands : slice_get all number ≡ Some one

-- each has one
pub has_number : (all : List Finished) (one : Finished) → Contains all one → HasNumber all one
has_number all one (number, inside, is) = record {
  number = number;
  inside = inside;
  stands = slice_get-get_or all number one inside ∙ ap (λ (found : Finished). Some found) is;
}

-- at one number there is one worker
pub one_number : (all : List Finished) (one other : Finished) (has : HasNumber all one) (also : HasNumber all other)
    → has.number ≡ also.number → one ≡ other
one_number all one other has also same =
    some_same has.stands (ap (λ (number : ℕ). slice_get all number) same ∙ also.stands)

-- the copies in a segment are those of the worker of a number, counted from a number on
pub record AreOfWorker (first : ℕ) (all : List Finished) (segment : SegmentCopies) : Type 0 where
  pub one : Finished
  pub number : ℕ
  pub among : Contains all one
  pub stands : slice_get all number ≡ Some one
  pub are : copies_of (first + number) one ≡ segment

-- so it is in each segment
pub of_worker : (first : ℕ) (all : List Finished) (segment : SegmentCopies) → Contains (copies_from first all) segment
    → AreOfWorker first all segment
of_worker first [] segment there = absurd (none_in segment there)
of_worker first (one ∷ all) segment there =
    elim (in_cases (copies_of first one) (copies_from (first + 1) all) segment there) [
      | inl is ↦
          let number : first + 0 ≡ first = omega arith in
          record {
            one = one;
            number = 0;
            among = first_in one all;
            stands = refl;
            are = ap (λ (n : ℕ). copies_of n one) number ∙ is;
          }
      | inr rest ↦
          let found = of_worker (first + 1) all segment rest in
          let number : first + suc found.number ≡ first + 1 + found.number = omega arith in
          record {
            one = found.one;
            number = suc found.number;
            among = rest_in one all found.one found.among;
            stands = found.stands;
            are = ap (λ (n : ℕ). copies_of n found.one) number ∙ found.are;
          }
    ]

-- where they are counted from 0 on, it is the worker's own number
pub of_own_number : {all : List Finished} {segment : SegmentCopies} (are : AreOfWorker 0 all segment)
    → copies_of are.number are.one ≡ segment
of_own_number are =
    let same : are.number ≡ 0 + are.number = omega arith in
    ap (λ (number : ℕ). copies_of number are.one) same ∙ are.are

-- segments are numbered in order
pub numbers_are : (first : ℕ) (all : List Finished)
    → map (λ (segment : SegmentCopies). segment.worker) (copies_from first all) ≡ range_with_len first (length all)
numbers_are first [] = refl
numbers_are first (one ∷ all) = ap (λ (more : List ℕ). first ∷ more) (numbers_are (first + 1) all)

-- they have the copies of all workers
pub homes_are : (first : ℕ) (all : List Finished) → homes_in (copies_from first all) ≡ homes_of all
homes_are first [] = refl
homes_are first (one ∷ all) =
    ap (λ (more : List Home). one.worker.copies ++ more) (homes_are (first + 1) all)

-- and their words
pub words_are : (fixed : Fixed) (first : ℕ) (all : List Finished)
    → words_of_segments fixed (copies_from first all) ≡ words_of_homes fixed (homes_of all)
words_are fixed first [] = refl
words_are fixed first (one ∷ all) =
    let rest : List SegmentCopies = copies_from (first + 1) all in
    let parts : words_of_segments fixed (copies_of first one ∷ rest)
    ≡ words_of_homes fixed one.worker.copies + words_of_segments fixed rest =
    sum_by-cons (λ (segment : SegmentCopies). words_of_homes fixed segment.homes) (copies_of first one) rest in
    let whole : words_of_homes fixed (one.worker.copies ++ homes_of all)
    ≡ words_of_homes fixed one.worker.copies + words_of_homes fixed (homes_of all) =
    sum_by-append (λ (home : Home). size_of fixed home.from) one.worker.copies (homes_of all) in
    parts ∙ ap (λ (n : ℕ). words_of_homes fixed one.worker.copies + n) (words_are fixed (first + 1) all) ∙ sym whole

-- where copies fill the rooms, these are the words of the rooms
pub counted : (fixed : Fixed) (first : ℕ) (all : List Finished)
    → ((one : Finished) → Contains all one → length one.worker.room ≡ words_of_homes fixed one.worker.copies)
    → words_by all ≡ words_of_segments fixed (copies_from first all)
counted fixed first [] each = refl
counted fixed first (one ∷ all) each =
    let rest : List SegmentCopies = copies_from (first + 1) all in
    let rooms : words_by (one ∷ all) ≡ length one.worker.room + words_by all =
    sum_by-cons (λ (other : Finished). length other.worker.room) one all in
    let parts : words_of_segments fixed (copies_of first one ∷ rest)
    ≡ words_of_homes fixed one.worker.copies + words_of_segments fixed rest =
    sum_by-cons (λ (segment : SegmentCopies). words_of_homes fixed segment.homes) (copies_of first one) rest in
    let later : words_by all ≡ words_of_segments fixed rest =
    counted fixed (first + 1) all (λ other there. each other (rest_in one all other there)) in
    rooms ∙ ap (λ (n : ℕ). n + words_by all) (each one (first_in one all))
    ∙ ap (λ (n : ℕ). words_of_homes fixed one.worker.copies + n) later ∙ sym parts

-- copies in ascending order of their cells are the same
pub ordered_same : (homes : List Home) (one : Home) → Contains (in_order homes) one ↔ Contains homes one
ordered_same [] one = (λ has. has, λ has. has)
ordered_same (home ∷ homes) one =
    same_with_home (in_order homes) homes (home ∷ homes) home (ordered_same homes)
    (λ other. (
      λ has. in_cases home homes other has,
      λ either. elim either [
        | inl is ↦ subst (Contains (home ∷ homes)) is (first_in home homes)
        | inr there ↦ rest_in home homes other there
      ],
    ))
    one

-- and have as many words
pub ordered_words : (fixed : Fixed) (homes : List Home)
    → words_of_homes fixed (in_order homes) ≡ words_of_homes fixed homes
ordered_words fixed [] = refl
ordered_words fixed (home ∷ homes) =
    let size : Home → ℕ = λ one. size_of fixed one.from in
    let more : words_of_homes fixed (in_order (home ∷ homes)) ≡ words_of_homes fixed (in_order homes) + size home =
    joined_sum size (in_order homes) home in
    let parts : words_of_homes fixed (home ∷ homes) ≡ size home + words_of_homes fixed homes =
    sum_by-cons size home homes in
    omega (arith, more, parts, ordered_words fixed homes)

-- what workers filled without a gap, copies of these sizes fill
pub tiles_of : (own : Own) (fixed : Fixed) (at end : ℕ) (homes : List Home)
    → ((cell : ℕ) → size_in own cell ≡ size_of fixed cell) → AreTiled own at homes end → Tiles fixed at end homes
tiles_of own fixed at end [] same tiled = subst (λ (n : ℕ). Tiles fixed at n []) tiled (Tiles.none at)
tiles_of own fixed at end (home ∷ homes) same tiled =
    let next : ℕ = at + size_in own home.from in
    let ends : next ≡ home.to + size_of fixed home.from = omega (arith, tiled.0, same home.from) in
    subst (λ (n : ℕ). Tiles fixed n end (home ∷ homes)) tiled.0
    (Tiles.next home end homes
    (subst (λ (n : ℕ). Tiles fixed n end homes) ends (tiles_of own fixed next end homes same tiled.1)))

-- workers whose rooms begin where segments do, numbered from a number on, have segments that share no word
pub all_beside : (space : Space) (half first : ℕ) (all : List Finished)
    → ((number : ℕ) (one : Finished) → slice_get all number ≡ Some one
    → one.worker.start ≡ segment_from space half (first + number))
    → ((one : Finished) → Contains all one → one.worker.most ≡ space.sizes.young) → AreAllBeside (workers_of all)
all_beside space half first [] starts most = tt
all_beside space half first (one ∷ all) starts most = (
  λ other there.
      let found = map_from (λ (f : Finished). f.worker) all other there in
      let has = has_number all found.0 found.1 in
      let none : first + 0 ≡ first = omega arith in
      let begins : one.worker.start ≡ segment_from space half first =
      starts 0 one refl ∙ ap (segment_from space half) none in
      let later : found.0.worker.start ≡ segment_from space half (first + suc has.number) =
      starts (suc has.number) found.0 has.stands in
      let apart : segment_from space half first + space.sizes.young
      ≤ segment_from space half (first + suc has.number) =
      segments_apart space half first (first + suc has.number) (omega arith) in
      let same : found.0.worker.start ≡ other.start = ap (λ (w : WorkerSide). w.start) found.2 in
      inl (omega (arith, begins, later, apart, same, most one (first_in one all))),
  all_beside space half (first + 1) all
      (λ number other stands.
      let next : first + suc number ≡ first + 1 + number = omega arith in
      starts (suc number) other stands ∙ ap (segment_from space half) next)
      (λ other there. most other (rest_in one all other there)),
)
