-- Reading and writing a word of four lists, one after another.
use Rattle.std.proofs.Common.{◌≡◌, ℕ, ◌+◌, ◌<◌, List, ◌++◌, length, set, slice_index, ap, subst, ◌∙◌, arith}
use Rattle.std.proofs.lemmas.List.{set-append_left, set-append_right, get_or-append-add, get_or_append_left}
use Rattle.shared_table.specs.Keeping.{joined_words}

-- a word after a first list is one of the second
after_get : (xs ys : List ℕ) (n k : ℕ) → length xs ≡ n → slice_index (xs ++ ys) (n + k) ≡ slice_index ys k
after_get xs ys n k wide =
    subst (λ (m : ℕ). slice_index (xs ++ ys) (m + k) ≡ slice_index ys k) wide (get_or-append-add xs ys k 0)

-- and it is put there
after_set : (xs ys : List ℕ) (n k x : ℕ) → length xs ≡ n → set (xs ++ ys) (n + k) x ≡ xs ++ set ys k x
after_set xs ys n k x wide =
    set-append_right xs ys n (n + k) x wide (omega arith) ∙ ap (λ i. xs ++ set ys i x) (omega arith)

module _ (words layouts colours board : List ℕ) (n a : ℕ) (wide : length words ≡ n) where
  -- the word of a page
  pub word_get : a < n → slice_index (joined_words words layouts colours board) a ≡ slice_index words a
  word_get inside = get_or_append_left words (layouts ++ (colours ++ board)) 0 a (omega (arith, wide))

  pub word_set : (x : ℕ) → a < n
      → set (joined_words words layouts colours board) a x ≡ joined_words (set words a x) layouts colours board
  word_set x inside = set-append_left words (layouts ++ (colours ++ board)) a x (omega (arith, wide))

  -- a layout word
  pub layout_get : a < length layouts
      → slice_index (joined_words words layouts colours board) (n + a) ≡ slice_index layouts a
  layout_get inside =
      after_get words (layouts ++ (colours ++ board)) n a wide ∙ get_or_append_left layouts (colours ++ board) 0 a
      inside

  pub layout_set : (x : ℕ) → a < length layouts
      → set (joined_words words layouts colours board) (n + a) x ≡ joined_words words (set layouts a x) colours board
  layout_set x inside =
      after_set words (layouts ++ (colours ++ board)) n a x wide
      ∙ ap (λ ys. words ++ ys) (set-append_left layouts (colours ++ board) a x inside)

  module _ (m : ℕ) (shapes : length layouts ≡ m) where
    -- a colour
    pub colour_get : a < length colours
        → slice_index (joined_words words layouts colours board) (n + (m + a)) ≡ slice_index colours a
    colour_get inside =
        after_get words (layouts ++ (colours ++ board)) n (m + a) wide
        ∙ (after_get layouts (colours ++ board) m a shapes ∙ get_or_append_left colours board 0 a inside)

    pub colour_set : (x : ℕ) → a < length colours
        → set (joined_words words layouts colours board) (n + (m + a)) x
        ≡ joined_words words layouts (set colours a x) board
    colour_set x inside =
        after_set words (layouts ++ (colours ++ board)) n (m + a) x wide
        ∙ ap (λ ys. words ++ ys) (after_set layouts (colours ++ board) m a x shapes
        ∙ ap (λ ys. layouts ++ ys) (set-append_left colours board a x inside))

    -- a word of the board
    pub board_get : length colours ≡ n
        → slice_index (joined_words words layouts colours board) (n + (m + (n + a))) ≡ slice_index board a
    board_get coloured =
        after_get words (layouts ++ (colours ++ board)) n (m + (n + a)) wide
        ∙ (after_get layouts (colours ++ board) m (n + a) shapes ∙ after_get colours board n a coloured)

    pub board_set : (x : ℕ) → length colours ≡ n
        → set (joined_words words layouts colours board) (n + (m + (n + a))) x
        ≡ joined_words words layouts colours (set board a x)
    board_set x coloured =
        after_set words (layouts ++ (colours ++ board)) n (m + (n + a)) x wide
        ∙ ap (λ ys. words ++ ys) (after_set layouts (colours ++ board) m (n + a) x shapes
        ∙ ap (λ ys. layouts ++ ys) (after_set colours board n a x coloured))
