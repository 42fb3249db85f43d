-- Entries that change nothing of the cache and the window: a close, a worker's rest and its end.
use Rattle.std.proofs.Common.{ℕ, ◌≤◌, Bool, List, ◌∷◌, refl}
use Rattle.sb_base.specs.declared.geometry.Geometry.{Geometry}
use Rattle.sb_base.specs.declared.settings.Settings.{Settings}
use Rattle.sb_base.specs.declared.entry.EntryKind.TheVariants as kind
use Rattle.sb_base.specs.declared.entry.Entry.{Entry}
use Rattle.sb_window.specs.Windows.{WindowState}
use Rattle.sb_blocks.specs.Caches.{CachedBlocks}
use Rattle.sb_core.specs.Represents.{next_place, RepresentsBy}
use Rattle.sb_core.proofs.BlocksStand.{at}
use Rattle.sb_core.proofs.EventParts.{next, others}

module _ (geometry : Geometry) (settings : Settings) {window : WindowState} (reading epoch place : ℕ)
    {marks : ℕ → Bool} (m : CachedBlocks) (past : List Entry)
    (s : RepresentsBy geometry settings window reading epoch place marks m past) where
  pub closes : (now pass : ℕ) → reading ≤ now
      → RepresentsBy geometry settings window now epoch (next_place place) marks m (at pass now kind.Closing ∷ past)
  closes now pass later =
      (next geometry settings reading epoch place m past s) window epoch now pass kind.Closing m later s.epochs s.fits
      s.on_disk (λ b. (others geometry settings reading epoch place m past s) pass now kind.Closing (refl, λ mark. refl) b refl)
      s.last_puts tt tt s.zeros

  pub stops : (now pass : ℕ) → reading ≤ now
      → RepresentsBy geometry settings window now epoch (next_place place) marks m (at pass now kind.Stopped ∷ past)
  stops now pass later =
      (next geometry settings reading epoch place m past s) window epoch now pass kind.Stopped m later s.epochs s.fits
      s.on_disk (λ b. (others geometry settings reading epoch place m past s) pass now kind.Stopped (refl, λ mark. refl) b refl)
      s.last_puts tt tt s.zeros

  pub sleeps : (now pass until : ℕ) → reading ≤ now
      → RepresentsBy geometry settings window now epoch (next_place place) marks m
      (at pass now (kind.Slept until) ∷ past)
  sleeps now pass until later =
      (next geometry settings reading epoch place m past s) window epoch now pass (kind.Slept until) m later s.epochs
      s.fits s.on_disk
      (λ b. (others geometry settings reading epoch place m past s) pass now (kind.Slept until) (refl, λ mark. refl) b refl)
      s.last_puts tt tt s.zeros
