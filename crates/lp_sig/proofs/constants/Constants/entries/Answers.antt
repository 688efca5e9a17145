use Rattle.std.proofs.lemmas.List.Elements.{All-more}
use Rattle.std.specs.Prelude.{All, is_some}
use Rattle.std.proofs.Common.{◌<◌, ◌≤◌, take_all, map, length, subst, arith, get_or, ap, ◌∙◌, ◌≡◌, true}
use Rattle.lp_sig.specs.Constants.{declared_constants}
use Rattle.lp_sig.proofs.Listing.{entry_listed, all_listed, numbers_for_all}
use Rattle.lp_sig.specs.Modules.{numbered_names}
use Rattle.lp_sig.specs.Sights.{AreTheirEntries}
use Rattle.lp_sig.proofs.Worded.{number_more}
use Rattle.lp_sig.proofs.Sights.{entries_more}
use Rattle.lp_sig.proofs.constants.Constants.entries.Goals as goal

pub loop-place-preserved : goal.loop-place-preserved
loop-place-preserved c =
    let i = c.loop-place.place in
    let number = c.in_ok-entry.ensures.number in
    record {
      numbers = omega (arith, number);
      listed = λ b said defs rows noted.
          entry_listed b said defs rows c.args.self.now.constants.items i _ c.loop-place.entries.items c.push.new.self.items c.in_ok-entry.entry
          (subst (λ xs. i < length xs) c.deref-constant-items.ensures.value c.loop-place-test.true)
          (c.constant-item.is ∙ ap (λ xs. get_or xs i c.constant-item.result) c.deref-constant-items.ensures.value) noted
          (c.loop-place.invariant.listed b said defs rows noted)
          (λ row n. c.in_ok-entry.ensures.is b said defs row n) c.in_ok-push.ensures.items;
      rows = number_more c.args.self.now.constants.items i _ c.loop-place.entries.items c.push.new.self.items c.in_ok-entry.entry
          (subst (λ xs. i < length xs) c.deref-constant-items.ensures.value c.loop-place-test.true)
          (c.constant-item.is ∙ ap (λ xs. get_or xs i c.constant-item.result) c.deref-constant-items.ensures.value) c.loop-place.invariant.rows c.in_ok-push.ensures.items c.in_ok-entry.ensures.row;
      typed = entries_more c.args.self.now.constants.items i _ c.loop-place.entries.items c.push.new.self.items c.in_ok-entry.entry
          (subst (λ xs. i < length xs) c.deref-constant-items.ensures.value c.loop-place-test.true)
          (c.constant-item.is ∙ ap (λ xs. get_or xs i c.constant-item.result) c.deref-constant-items.ensures.value) c.in_ok-push.ensures.items c.loop-place.invariant.typed
          (ap (λ r. r.0) c.in_ok-entry.ensures.row) c.in_ok-entry.ensures.typed;
      full = All-more (λ k. is_some k.declared ≡ true) c.args.self.now.constants.items i c.constant-item.result
          (subst (λ xs. i < length xs) c.deref-constant-items.ensures.value c.loop-place-test.true) c.loop-place.invariant.full
          (subst (λ k. is_some k.declared ≡ true) (c.constant-item.is ∙ ap (λ xs. get_or xs i c.constant-item.result) c.deref-constant-items.ensures.value) c.in_ok-entry.ensures.full);
    }

pub returns-clause-are : goal.returns-clause-are
returns-clause-are c = λ b said defs rows k.
    all_listed b said defs (declared_constants rows) c.args.self.now.constants.items c.loop-place.place c.loop-place.entries.items
    (subst (λ xs. length xs ≤ c.loop-place.place) c.deref-constant-items.ensures.value c.loop-place-test.false) k.are
    (c.loop-place.invariant.listed b said defs (declared_constants rows) k.are)

pub returns-clause-numbers : goal.returns-clause-numbers
returns-clause-numbers c = λ b said defs rows k. numbers_for_all b said defs c.args.self.now rows c.loop-place.place c.loop-place.invariant.numbers
    (subst (λ xs. length xs ≤ c.loop-place.place) c.deref-constant-items.ensures.value c.loop-place-test.false) k

pub returns-clause-rows : goal.returns-clause-rows
returns-clause-rows c =
    c.loop-place.invariant.rows ∙
    ap (λ xs. numbered_names 32 (map (λ k. k.name.items) xs)) (take_all c.loop-place.place c.args.self.now.constants.items
    (subst (λ xs. length xs ≤ c.loop-place.place) c.deref-constant-items.ensures.value c.loop-place-test.false))

pub returns-clause-typed : goal.returns-clause-typed
returns-clause-typed c = subst (λ ks. AreTheirEntries ks c.loop-place.entries.items) (take_all c.loop-place.place c.args.self.now.constants.items
    (subst (λ xs. length xs ≤ c.loop-place.place) c.deref-constant-items.ensures.value c.loop-place-test.false)) c.loop-place.invariant.typed

pub returns-clause-full : goal.returns-clause-full
returns-clause-full c = subst (All (λ k. is_some k.declared ≡ true)) (take_all c.loop-place.place c.args.self.now.constants.items
    (subst (λ xs. length xs ≤ c.loop-place.place) c.deref-constant-items.ensures.value c.loop-place-test.false)) c.loop-place.invariant.full
