use Rattle.std.proofs.Common.{rules, arith, refl, ap, ◌∙◌, ◌≡◌}
use Rattle.sb_history.specs.Eviction.{count}
use Rattle.sb_zero.specs.Sets.{is_marked}
use Rattle.sb_window.specs.Windows.{new_window}
use Rattle.sb_blocks.specs.Caches.{new_cache}
use Rattle.sb_core.proofs.Keeping.{new_is_window, new_opens, new_is_cache, new_expects}
use Rattle.sb_core.proofs.Starts.{new_represents_opening}
use Rattle.sb_core.specs.StandingLaws.{new_stands}
use Rattle.sb_core.proofs.LeadEvents.{new_idle}
use Rattle.sb_core.proofs.machine.Core.new.Goals as goal

pub invariant_of-result : goal.invariant_of-result
invariant_of-result c =
    let window : c.in_ok-window.window ≡ new_window c.args.settings = c.in_ok-window.ensures in
    let blocks : c.in_ok-blocks.blocks ≡ new_cache c.args.geometry c.args.settings.cache_size = c.in_ok-blocks.ensures in
    record {
      limit = omega arith;
      given = rw window (omega arith);
      its_window = rw window (new_is_window c.args.geometry c.args.settings c.requires.checked);
      its_cache = rw blocks (new_is_cache c.args.geometry c.args.settings c.requires.checked);
      opens = rw (blocks, window) (new_opens c.args.settings);
      expects = rw blocks (new_expects c.args.settings);
      its_marks = c.requires.zeros;
      absent_of = λ on. c.in_ok-absent.ensures (search rules);
    }

pub returns-clause-represents : goal.returns-clause-represents
returns-clause-represents c =
    let window : c.in_ok-window.window ≡ new_window c.args.settings = c.in_ok-window.ensures in
    let blocks : c.in_ok-blocks.blocks ≡ new_cache c.args.geometry c.args.settings.cache_size = c.in_ok-blocks.ensures in
    rw (blocks, window) (new_represents_opening c.args.geometry c.args.settings (is_marked c.args.zeros)
    c.count.result c.requires.checked c.requires.sound (c.count.ensures ∙ ap (count (is_marked c.args.zeros)) c.requires.zeros))

pub returns-clause-idle : goal.returns-clause-idle
returns-clause-idle c =
    let blocks : c.in_ok-blocks.blocks ≡ new_cache c.args.geometry c.args.settings.cache_size = c.in_ok-blocks.ensures in
    rw blocks new_idle

pub returns-clause-stands : goal.returns-clause-stands
returns-clause-stands c = new_stands _ refl refl (returns-clause-represents c)
