use Rattle.sb_pages.proofs.PageLemmas.{IsPage-from}
use Rattle.sb_pages.proofs.next_page.Goals as goal

pub returns : goal.returns
returns c files has =
    let page = IsPage-from c.args.prefix.now c.args.marker.now c.page.inside.keys.items c.sort.new.names.items files
    (rw (← c.page.view_is) at has) (rw c.keep_asked_for.ensures at c.sort.ensures.moved) c.sort.ensures.sorted in
    rw (c.truncate.ensures.items, c.len-more.ensures, c.sort.new.names.ok.0) page
