use Rattle.std.proofs.Common.{ap, refl, arith, ◌∙◌, List, ℕ, ◌≡◌, [], ◌^◌}
use Rattle.sb_tools.specs.declared.fault.ToolFault.TheVariants as fault
use Rattle.sb_tools.specs.Listings.{last_of}
use Rattle.sb_tools.proofs.Gaining.{counts_none, counts_on, err_is, fails_alike, gains_nothing}
use Rattle.sb_tools.proofs.Lines.{holds_nothing}
use Rattle.sb_tools.proofs.Pages.{breaks, breaks_spent, no_fault_of_output, stands_first}
use Rattle.sb_tools.proofs.Showing.{shown_on, shown_all, shown_fits, shown_until, shown_in_part, shown_more}
use Rattle.sb_tools.proofs.show.show_blocks.Goals as goal

pub pages-init : goal.pages-init
pages-init g c = record {
  shown = record {
    pages = [];
    stands = stands_first _ c.new-listing.ensures;
    asked = gains_nothing _;
    wrote = holds_nothing _;
    count = refl;
  };
  store = omega arith;
  output = omega arith;
}

pub returns-in-Err-clause-told : goal.returns-in-Err-clause-told
returns-in-Err-clause-told g c =
    let shown = c.pages.invariant.shown in
    let asks = c.in-Err.ensures.told in
    shown_until shown (breaks shown.stands c.pages-test.true asks.are shown.asked asks.gained) refl

pub returns-in-Err-clause-store : goal.returns-in-Err-clause-store
returns-in-Err-clause-store g c = counts_on c.pages.invariant.store c.in-Err.ensures.cause (fails_alike c.in-Err.fault)

pub returns-in-Err-clause-output : goal.returns-in-Err-clause-output
returns-in-Err-clause-output g c =
    counts_none c.pages.invariant.output (λ fails. no_fault_of_output c.in-Err.ensures.told.are (err_is c.in-Err.fault fault.OutputFault fails))

pub returns-in-Err-show_page-clause-told : goal.returns-in-Err-show_page-clause-told
returns-in-Err-show_page-clause-told g c =
    let shown = c.pages.invariant.shown in
    let asks = c.in-Ok.ensures.told in
    let told = rw c.names.ensures at c.in-Err-show_page.ensures.told in
    shown_in_part shown c.pages-test.true asks.are asks.gained told.0 told.1

pub returns-in-Err-show_page-clause-store : goal.returns-in-Err-show_page-clause-store
returns-in-Err-show_page-clause-store g c =
    let told = c.in-Err-show_page.ensures.told in
    counts_on c.pages.invariant.store c.in-Ok.ensures.cause (λ fails. absurd (cc (told.0, fails.1)))

pub returns-in-Err-show_page-clause-output : goal.returns-in-Err-show_page-clause-output
returns-in-Err-show_page-clause-output g c =
    counts_on c.pages.invariant.output c.in-Err-show_page.ensures.cause (λ fails. refl)

pub overflow_add-shown : goal.overflow_add-shown
overflow_add-shown g c =
    let asks = c.in-Ok.ensures.told in
    let told = rw c.names.ensures at c.in-Ok-show_page.ensures.told in
    let shows = shown_more c.pages.invariant.shown c.pages-test.true asks.are asks.gained told.0 told.1 in
    omega (arith, shown_fits shows)

pub returns-then-not-more-clause-told : goal.returns-then-not-more-clause-told
returns-then-not-more-clause-told g c =
    let asks = c.in-Ok.ensures.told in
    let told = rw c.names.ensures at c.in-Ok-show_page.ensures.told in
    shown_all (shown_more c.pages.invariant.shown c.pages-test.true asks.are asks.gained told.0 told.1) c.if-not-more.true

pub returns-then-not-more-clause-store : goal.returns-then-not-more-clause-store
returns-then-not-more-clause-store g c =
    counts_on c.pages.invariant.store c.in-Ok.ensures.cause (λ fails. absurd (cc fails.1))

pub returns-then-not-more-clause-output : goal.returns-then-not-more-clause-output
returns-then-not-more-clause-output g c =
    counts_on c.pages.invariant.output c.in-Ok-show_page.ensures.cause (λ fails. absurd (cc fails))

pub pages-preserved : goal.pages-preserved
pages-preserved g c =
    let asks = c.in-Ok.ensures.told in
    let told = rw c.names.ensures at c.in-Ok-show_page.ensures.told in
    let shows = shown_more c.pages.invariant.shown c.pages-test.true asks.are asks.gained told.0 told.1 in
    record {
      shown = shown_on shows c.if-not-more.false
          (ap (λ (behind : List ℕ). last_of behind c.next_page.new.self.page) c.next_page.ensures.marker);
      store = omega (arith, c.pages.invariant.store, c.in-Ok.ensures.cause.later);
      output = omega (arith, c.pages.invariant.output, c.in-Ok-show_page.ensures.cause.later);
    }

pub returns-clause-told : goal.returns-clause-told
returns-clause-told g c =
    let shown = c.pages.invariant.shown in
    let spent : c.pages._asked ≡ 2 ^ 32 = omega (arith, c.pages-test.false, c.pages.auto._asked-end) in
    shown_until shown (breaks_spent shown.stands spent shown.asked) refl

pub returns-clause-store : goal.returns-clause-store
returns-clause-store g c = counts_none c.pages.invariant.store (λ fails. absurd (cc fails.1))

pub returns-clause-output : goal.returns-clause-output
returns-clause-output g c = counts_none c.pages.invariant.output (λ fails. absurd (cc fails))
