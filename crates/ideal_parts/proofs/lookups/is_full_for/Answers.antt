use Rattle.std.proofs.Common.{◌∙◌, sym, ap, ◌&&◌, not, nat_le, count_by}
use Rattle.object_graph.specs.Meaning.{weak_most}
use Rattle.object_graph.specs.Reach.{is_marked}
use Rattle.ideal_parts.proofs.MarkedEntries.{no_entry_for-by}
use Rattle.ideal_parts.proofs.lookups.is_full_for.Goals as goal

pub returns-then-not-is_known : goal.returns-then-not-is_known
returns-then-not-is_known c =
    let marks = c.args.marks.now in
    let entries = c.args.entries.now in
    let many = nat_le weak_most (count_by (λ entry. is_marked marks entry.key) entries) in
    ap (λ least. nat_le least c.count_keyed.result) c.from.ensures
    ∙ ap (nat_le weak_most) c.count_keyed.ensures
    ∙ ap (λ known. not known && many) (sym c.if-not-is_known.true ∙ c.is_known.ensures)
    ∙ sym (no_entry_for-by marks entries c.args.key)

pub returns-else-not-is_known : goal.returns-else-not-is_known
returns-else-not-is_known c =
    let marks = c.args.marks.now in
    let entries = c.args.entries.now in
    let many = nat_le weak_most (count_by (λ entry. is_marked marks entry.key) entries) in
    ap not c.if-not-is_known.false
    ∙ ap (λ known. not known && many) (sym c.if-not-is_known.false ∙ c.is_known.ensures)
    ∙ sym (no_entry_for-by marks entries c.args.key)
