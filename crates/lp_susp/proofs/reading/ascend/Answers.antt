use Rattle.std.proofs.Common.{◌≡◌, ◌∙◌, ◌<◌, ◌++◌, ◌∷◌, [], length, sym, ap, subst, arith}
use Rattle.std.specs.Prelude.{All}
use Rattle.std.proofs.lemmas.Grind.{common_steps}
use Rattle.std.proofs.lemmas.List.Elements.{All-push}
use Rattle.std.proofs.lemmas.List.{nil_from_length}
use Rattle.lp_store.specs.Contents.{span}
use Rattle.lp_susp.specs.declared.reading.Frame.TheVariants.{Head, Argument}
use Rattle.lp_susp.specs.Frames.{FrameStands, StateStands, StateOf}
use Rattle.lp_susp.proofs.Chains.{all_front, all_last}
use Rattle.lp_susp.proofs.Keeping.{grows_same}
use Rattle.lp_susp.proofs.Plugs.{all_stand_more}
use Rattle.lp_susp.proofs.Sizes.{up_abs_counted, up_last_counted, up_head_counted, up_next_counted}
use Rattle.lp_susp.proofs.Readbacks.{up_abs, up_head, up_last, up_next, some_count}
use Rattle.lp_susp.proofs.reading.ascend.Goals.{Then-is_empty, In_ok-state-in-Argument}
use Rattle.lp_susp.proofs.reading.ascend.Goals as goal

nothing : (c : Then-is_empty) → length c.items.result.now ≡ 0
nothing c = grind (arith, common_steps)

something : (c : In_ok-state-in-Argument) → 0 < length c.items.result.now
something c = grind (arith, common_steps)

pub returns-then-is_empty-clause-state : goal.returns-then-is_empty-clause-state
returns-then-is_empty-clause-state c =
    let s = c.args.store.now in
    let b = c.args.bank.now in
    let front = c.pop.new.self.items in
    let a = subst (λ l. All (FrameStands s b) l) c.in-Some.ensures.items c.requires.frames in
    let r = c.in-Argument.rest in
    up_last s b c.put_term-in-Argument.new.self front c.args.frames.now.items c.args.built c.in_ok-id-in-Argument.id c.in-Argument.head r c.in_ok-id-in-Argument.ensures.kept (all_front (FrameStands s b) front c.in-Some.frame a)
    (c.in-Some.ensures.items ∙ ap (λ f. front ++ f ∷ []) c.in-Argument.is) (nil_from_length (span s.items r.from r.count) (ap length (sym c.items.ensures.items) ∙ nothing c)) c.in_ok-id-in-Argument.ensures.tree

pub returns-in_ok-id-in-Under-clause-state : goal.returns-in_ok-id-in-Under-clause-state
returns-in_ok-id-in-Under-clause-state c =
    let s = c.args.store.now in
    let b = c.args.bank.now in
    let front = c.pop.new.self.items in
    let a = subst (λ l. All (FrameStands s b) l) c.in-Some.ensures.items c.requires.frames in
    up_abs s b c.put_term.new.self front c.args.frames.now.items c.args.built c.in_ok-id-in-Under.id c.in_ok-id-in-Under.ensures.kept (all_front (FrameStands s b) front c.in-Some.frame a)
    (c.in-Some.ensures.items ∙ ap (λ f. front ++ f ∷ []) c.in-Under.is) c.in_ok-id-in-Under.ensures.tree

pub returns-in_ok-state-in-Head-clause-frames : goal.returns-in_ok-state-in-Head-clause-frames
returns-in_ok-state-in-Head-clause-frames c =
    let s = c.args.store.now in
    let b = c.args.bank.now in
    let front = c.pop.new.self.items in
    let a = subst (λ l. All (FrameStands s b) l) c.in-Some.ensures.items c.requires.frames in
    let h : FrameStands s b (Head c.in-Head.arguments) = subst (FrameStands s b) c.in-Head.is (all_last (FrameStands s b) front c.in-Some.frame a) in
    let put = c.in_ok-state-in-Head.ensures.put in
    subst (λ l. All (FrameStands s b) l) (sym put.3) (All-push (FrameStands s b) front (Argument c.args.built put.0) (all_front (FrameStands s b) front c.in-Some.frame a) (omega (arith, h.0, put.1, put.2), c.requires.built))

pub returns-in_ok-state-in-Head-clause-stands : goal.returns-in_ok-state-in-Head-clause-stands
returns-in_ok-state-in-Head-clause-stands c =
    let next = c.in_ok-state-in-Head.ensures.next in
    subst (StateStands c.args.store.now c.args.bank.now) (sym next.1) next.3

pub returns-in_ok-state-in-Head-clause-state : goal.returns-in_ok-state-in-Head-clause-state
returns-in_ok-state-in-Head-clause-state c = λ x w g n p.
    let s = c.args.store.now in
    let b = c.args.bank.now in
    let front = c.pop.new.self.items in
    let a = subst (λ l. All (FrameStands s b) l) c.in-Some.ensures.items c.requires.frames in
    let h : FrameStands s b (Head c.in-Head.arguments) = subst (FrameStands s b) c.in-Head.is (all_last (FrameStands s b) front c.in-Some.frame a) in
    let put = c.in_ok-state-in-Head.ensures.put in
    let next = c.in_ok-state-in-Head.ensures.next in
    let k = up_head s b front c.args.frames.now.items c.next_argument.new.frames.items c.args.built c.in-Head.arguments put.0 next.0 next.0 (c.in-Some.ensures.items ∙ ap (λ f. front ++ f ∷ []) c.in-Head.is) h.0 h.1 put.1 put.2 put.3 next.2 x w g n p in
    (k.0, subst (λ y. StateOf s b y k.0) (sym next.1) k.1, k.2)

pub returns-in_ok-state-in-Argument-clause-frames : goal.returns-in_ok-state-in-Argument-clause-frames
returns-in_ok-state-in-Argument-clause-frames c =
    let s = c.args.store.now in
    let b = c.args.bank.now in
    let d = c.put_term-in-Argument.new.self in
    let front = c.pop.new.self.items in
    let a = subst (λ l. All (FrameStands s b) l) c.in-Some.ensures.items c.requires.frames in
    let h : FrameStands s b (Argument c.in-Argument.head c.in-Argument.rest) = subst (FrameStands s b) c.in-Argument.is (all_last (FrameStands s b) front c.in-Some.frame a) in
    let put = c.in_ok-state-in-Argument.ensures.put in
    let id : c.in_ok-id-in-Argument.id.0 < length d.terms = grown c in
    subst (λ l. All (FrameStands s d) l) (sym put.3)
    (All-push (FrameStands s d) front (Argument c.in_ok-id-in-Argument.id put.0) (all_stand_more s s b d (grows_same s) c.in_ok-id-in-Argument.ensures.kept front (all_front (FrameStands s b) front c.in-Some.frame a)) (omega (arith, h.0, put.1, put.2), id))
  where
    grown : (c : In_ok-state-in-Argument) → c.in_ok-id-in-Argument.id.0 < length c.put_term-in-Argument.new.self.terms
    grown c = grind (arith, common_steps)

pub returns-in_ok-state-in-Argument-clause-stands : goal.returns-in_ok-state-in-Argument-clause-stands
returns-in_ok-state-in-Argument-clause-stands c =
    let next = c.in_ok-state-in-Argument.ensures.next in
    subst (StateStands c.args.store.now c.put_term-in-Argument.new.self) (sym next.1) next.3

pub returns-in_ok-state-in-Argument-clause-state : goal.returns-in_ok-state-in-Argument-clause-state
returns-in_ok-state-in-Argument-clause-state c = λ x w g n p.
    let s = c.args.store.now in
    let b = c.args.bank.now in
    let d = c.put_term-in-Argument.new.self in
    let front = c.pop.new.self.items in
    let a = subst (λ l. All (FrameStands s b) l) c.in-Some.ensures.items c.requires.frames in
    let h : FrameStands s b (Argument c.in-Argument.head c.in-Argument.rest) = subst (FrameStands s b) c.in-Argument.is (all_last (FrameStands s b) front c.in-Some.frame a) in
    let r = c.in-Argument.rest in
    let put = c.in_ok-state-in-Argument.ensures.put in
    let next = c.in_ok-state-in-Argument.ensures.next in
    let i : 0 < r.count = some_count s.items r.from r.count (subst (λ l. 0 < length l) c.items.ensures.items (something c)) in
    let k = up_next s b d front c.args.frames.now.items c.next_argument-in-Argument.new.frames.items c.args.built c.in_ok-id-in-Argument.id c.in-Argument.head r put.0 next.0 next.0 c.in_ok-id-in-Argument.ensures.kept (all_front (FrameStands s b) front c.in-Some.frame a)
    (c.in-Some.ensures.items ∙ ap (λ f. front ++ f ∷ []) c.in-Argument.is) c.in_ok-id-in-Argument.ensures.tree h.0 i put.1 put.2 put.3 next.2 x w g n p in
    (k.0, subst (λ y. StateOf s d y k.0) (sym next.1) k.1, k.2)

pub returns-then-is_empty-clause-counted : goal.returns-then-is_empty-clause-counted
returns-then-is_empty-clause-counted c =
    let s = c.args.store.now in
    let b = c.args.bank.now in
    let front = c.pop.new.self.items in
    let a = subst (λ l. All (FrameStands s b) l) c.in-Some.ensures.items c.requires.frames in
    up_last_counted s b c.put_term-in-Argument.new.self front c.args.frames.now.items c.args.built c.in_ok-id-in-Argument.id c.in-Argument.head c.in-Argument.rest c.in_ok-id-in-Argument.ensures.kept (all_front (FrameStands s b) front c.in-Some.frame a)
    (c.in-Some.ensures.items ∙ ap (λ f. front ++ f ∷ []) c.in-Argument.is) c.in_ok-id-in-Argument.ensures.tree

pub returns-in_ok-id-in-Under-clause-counted : goal.returns-in_ok-id-in-Under-clause-counted
returns-in_ok-id-in-Under-clause-counted c =
    let s = c.args.store.now in
    let b = c.args.bank.now in
    let front = c.pop.new.self.items in
    let a = subst (λ l. All (FrameStands s b) l) c.in-Some.ensures.items c.requires.frames in
    up_abs_counted s b c.put_term.new.self front c.args.frames.now.items c.args.built c.in_ok-id-in-Under.id c.in_ok-id-in-Under.ensures.kept (all_front (FrameStands s b) front c.in-Some.frame a)
    (c.in-Some.ensures.items ∙ ap (λ f. front ++ f ∷ []) c.in-Under.is) c.in_ok-id-in-Under.ensures.tree

pub returns-in_ok-state-in-Head-clause-counted : goal.returns-in_ok-state-in-Head-clause-counted
returns-in_ok-state-in-Head-clause-counted c =
    let front = c.pop.new.self.items in
    let put = c.in_ok-state-in-Head.ensures.put in
    let next = c.in_ok-state-in-Head.ensures.next in
    up_head_counted c.args.bank.now front c.args.frames.now.items c.next_argument.new.frames.items c.args.built c.in-Head.arguments put.0 next.0 c.in_ok-state-in-Head.state (c.in-Some.ensures.items ∙ ap (λ f. front ++ f ∷ []) c.in-Head.is) put.3 next.1

pub returns-in_ok-state-in-Argument-clause-counted : goal.returns-in_ok-state-in-Argument-clause-counted
returns-in_ok-state-in-Argument-clause-counted c =
    let s = c.args.store.now in
    let b = c.args.bank.now in
    let d = c.put_term-in-Argument.new.self in
    let front = c.pop.new.self.items in
    let a = subst (λ l. All (FrameStands s b) l) c.in-Some.ensures.items c.requires.frames in
    let put = c.in_ok-state-in-Argument.ensures.put in
    let next = c.in_ok-state-in-Argument.ensures.next in
    up_next_counted s b d front c.args.frames.now.items c.next_argument-in-Argument.new.frames.items c.args.built c.in_ok-id-in-Argument.id c.in-Argument.head c.in-Argument.rest put.0 next.0 c.in_ok-state-in-Argument.state c.in_ok-id-in-Argument.ensures.kept
    (all_front (FrameStands s b) front c.in-Some.frame a) (c.in-Some.ensures.items ∙ ap (λ f. front ++ f ∷ []) c.in-Argument.is) c.in_ok-id-in-Argument.ensures.tree put.3 next.1
