-- A first root word has a class, and the class tells what is held.
use Rattle.std.proofs.Common.{◌∙◌, ap}
use Rattle.handle_roots.specs.Roots.{first_word}
use Rattle.handle_roots.specs.RootDecoding.{decoded, decoded_by}
use Rattle.handle_roots.proofs.RootWords.{HasClass, class_of_first}
use Rattle.handle_roots.proofs.first_words.held_by_first.Goals as goal

pub known_class-requires : goal.known_class-requires
known_class-requires c =
    let (held, fits, is) = c.requires in
    let found : HasClass (first_word held) (decoded held) = class_of_first held fits in
    record { known = (found.class, found.is_class, is ∙ found.bits) }

pub returns : goal.returns
returns c held fits is =
    let found : HasClass (first_word held) (decoded held) = class_of_first held fits in
    let known = c.known_class.ensures found.class found.is_class (is ∙ found.bits) in
    c.held_by_class.ensures ∙ ap decoded_by known ∙ found.tells
