use Rattle.std.proofs.Common.{◌≡◌, ◌∙◌, sym, ap, refl, Option, Some, None, Bor}
use Rattle.std.specs.Option.{is_some, option_copied}
use Rattle.sb_fakes.proofs.FileLemmas.{taken, becomes}
use Rattle.sb_fakes.proofs.folder.MemoryFolderFolder.remove.Goals as goal

-- what a reference points to is there where the reference is
is_some-copied : {T : Type 0} (found : Option (Bor T)) → is_some (option_copied found) ≡ is_some found
is_some-copied None = refl
is_some-copied (Some value) = refl

pub returns-clause-told : goal.returns-clause-told
returns-clause-told c =
    let (none, others) = taken _ _ _ c.take_away.ensures in
    becomes _ _ (
      c.is_some-there.ensures ∙ sym (is_some-copied c.body.result) ∙ ap is_some c.body.ensures,
      none,
      others,
    )
