use Rattle.sb_fakes.specs.Objects.{bodies_of, body_in}
use Rattle.sb_fakes.proofs.FileLemmas.{HasNames-contents}
use Rattle.sb_fakes.proofs.store.PlainStore.names_after.Goals as goal

pub returns : goal.returns
returns c =
    c.next_page.ensures (λ name. body_in (bodies_of c.args.self.now.objects.items name))
    (HasNames-contents _ _ (rw c.deref.ensures.value at c.in_ok-page-inside.ensures))
