-- What the loops over a text's steps need is there: parts, open abstractions, and type arguments.
use Rattle.std.proofs.Common.{◌≡◌, ℕ, suc, ◌+◌, ◌-◌, ◌<◌, ◌≤◌, List, [], ◌∷◌, ◌++◌, map, reverse, length, drop, get_or, refl, sym, ap, subst, ◌∙◌, arith}
use Rattle.std.specs.Prelude.{All}
use Rattle.std.proofs.lemmas.List.{length-map, length-reverse, length-append, drop_more}
use Rattle.std.proofs.lemmas.List.Elements.{All-nil}
use Rattle.lp_calculus.specs.Types.{Ty, var, instance}
use Rattle.lp_term.specs.Nodes.{Nodes, type_tree, Extends}
use Rattle.lp_term.specs.Within.{IsTypeOf, AreTypesOf}
use Rattle.lp_term.specs.declared.node.TermId.{TermId}
use Rattle.lp_term.specs.declared.node.TypeId.{TypeId}
use Rattle.lp_type_unify.specs.Reading.{IsPair}
use Rattle.lp_syntax.specs.declared.text.RawTerm.{RawTerm}
use Rattle.lp_sig.specs.declared.signature.Signature.{Signature}
use Rattle.lp_infer.specs.Typing.{Raw}
use Rattle.lp_infer.specs.Generate.{fresh}
use Rattle.lp_infer.specs.Postfix.{mark, IsStep}
use Rattle.lp_infer.specs.Running.{Sofar, sofar, act, run}
use Rattle.lp_infer.specs.Copies.{trees_of}
use Rattle.lp_infer.specs.Filling.{spine_tree, IsSpine, terms_so_far, AreSound, Forms, form, form_all, IsPopped, IsTaken}
use Rattle.lp_infer.specs.ReadingOff.{ReadsAll}
use Rattle.lp_infer.specs.Meeting.{renaming}
use Rattle.lp_infer.specs.Making.{state, IsSound, Acts, HasVariables, IsGenerated}
use Rattle.lp_infer.specs.Visits.{noted_types, marks, IsLookedUp}
use Rattle.lp_infer.specs.inner.Parts.{takes, parts_after, ends, open_after, arguments_of, all_arguments, HaveParts, HaveOpen}
use Rattle.lp_infer.specs.declared.lookup.Step.{Step}
use Rattle.lp_infer.specs.declared.lookup.Lookup.{Lookup}
use Rattle.lp_infer.specs.declared.generate.Typing.{Typing}
use Rattle.lp_infer.specs.declared.reading.Reading.{Reading}
use Rattle.lp_infer.specs.declared.terms.Terms.{Terms}
use Rattle.lp_infer.proofs.Principal.{fresh_length}
use Rattle.lp_infer.proofs.Joining.{is_found}
use Rattle.lp_infer.proofs.Parts.{mark_parts, mark_open, all_mark_arguments, same_takes, same_after, same_ends, same_open, steps_arguments, parts_of_text, open_of_text, next_parts, next_open, act_stack, act_context, run_arguments, form_terms}

-- a text that was looked up

module _ (sig : Signature) (text : List ℕ) (raw : RawTerm) (l : Lookup) (L : IsLookedUp sig text raw.nodes.items raw.root l) where
  pub looked_parts : HaveParts l.steps.items 0
  looked_parts =
      let F = is_found sig text raw l L in
      parts_of_text text sig.bank (length l.variables.places.items) (noted_types l.types var) F.found l.steps.items F.marked

  pub looked_open : (n : ℕ) → HaveOpen l.steps.items n
  looked_open n =
      let F = is_found sig text raw l L in
      open_of_text text sig.bank (length l.variables.places.items) (noted_types l.types var) F.found l.steps.items n F.marked

-- the equations of a text

stack_many : (t : Typing) → length (state t).stack ≡ length t.stack.items
stack_many t = length-reverse (trees_of t.types t.stack.items) ∙ length-map t.stack.items (λ i. type_tree t.types i.0)

context_many : (t : Typing) → length (state t).context ≡ length t.context.items
context_many t = length-reverse (trees_of t.types t.context.items) ∙ length-map t.context.items (λ i. type_tree t.types i.0)

pub begins_sound : (t : Typing) → t.context.items ≡ [] → t.pairs.items ≡ [] → t.wanted.items ≡ [] → t.stack.items ≡ [] → IsSound t
begins_sound t a b d e = record {
  context = subst (AreTypesOf t.types) (sym a) (All-nil (IsTypeOf t.types));
  pairs = subst (All (IsPair (length t.types.types))) (sym b) (All-nil (IsPair (length t.types.types)));
  wanted = subst (AreTypesOf t.types) (sym d) (All-nil (IsTypeOf t.types));
  stack = subst (AreTypesOf t.types) (sym e) (All-nil (IsTypeOf t.types));
}

-- behind the variables nothing stands on the stack, and the context has the variables
pub begins_parts : (count : ℕ) (old new : Typing) → old.context.items ≡ [] → old.pairs.items ≡ [] → old.wanted.items ≡ [] → old.stack.items ≡ [] → HasVariables count old new →
    (0 ≡ length new.stack.items) × (count ≡ length new.context.items)
begins_parts count old new a b d e V =
    let z = V.state a b d e in (
      sym (sym (stack_many new) ∙ ap (λ s. length s.stack) z),
      sym (sym (context_many new) ∙ ap (λ s. length s.context) z ∙ fresh_length count old.next),
    )

-- a step takes what it needs and leaves the rest what that needs
pub record IsNext (steps : List Step) (i : ℕ) (new : Typing) : Type 0 where
  pub parts : HaveParts (drop (i + 1) steps) (length new.stack.items)
  pub opened : HaveOpen (drop (i + 1) steps) (length new.context.items)

module _ (sig : Signature) (text : List ℕ) (count : ℕ) (steps : List Step) (i : ℕ) (d : Step) (below : i < length steps) (old new : Typing)
    (P : HaveParts (drop i steps) (length old.stack.items)) (O : HaveOpen (drop i steps) (length old.context.items)) where
  pub is_next : IsSound old → Acts old new (act (mark text sig.bank count (type_tree old.types) (get_or steps i d))) → IsNext steps i new
  is_next S A =
      let s = get_or steps i d in
      let τ = type_tree old.types in
      let m = mark text sig.bank count τ s in
      let p = next_parts steps i d (length old.stack.items) below P in
      let o = next_open steps i d (length old.context.items) below O in
      let many = stack_many old in
      let deep = context_many old in
      let takes_ = same_takes text sig.bank count τ s in
      let ends_ = same_ends text sig.bank count τ s in
      let a = subst (λ k. k ≤ length (state old).stack) (sym takes_) (subst (λ k. takes s ≤ k) (sym many) p.0) in
      let b = subst (λ k. k ≤ length (state old).context) (sym ends_) (subst (λ k. ends s ≤ k) (sym deep) o.0) in
      let z = A.state S in
      let left : parts_after s (length old.stack.items) ≡ length new.stack.items = sym (same_after text sig.bank count τ s (length old.stack.items)) ∙ ap (λ k. mark_parts m k) (sym many) ∙ sym (act_stack m (state old) a b) ∙ sym (ap (λ t. length t.stack) z) ∙ stack_many new in
      let inside : open_after s (length old.context.items) ≡ length new.context.items = sym (same_open text sig.bank count τ s (length old.context.items)) ∙ ap (λ k. mark_open m k) (sym deep) ∙ sym (act_context m (state old) a b) ∙ sym (ap (λ t. length t.context) z) ∙ context_many new in
      record {
        parts = subst (HaveParts (drop (i + 1) steps)) left p.1;
        opened = subst (HaveOpen (drop (i + 1) steps)) inside o.1;
      }

-- the types that are wanted are those of the variables and the type arguments
pub wanted_many : (sig : Signature) (text : List ℕ) (steps : List Step) (count : ℕ) (b : Nodes) (next : ℕ) (t : Typing) → IsGenerated sig text steps count b next t → length t.wanted.items ≡ count + all_arguments steps
wanted_many sig text steps count b next t G =
    let begins = sofar (fresh count next) (next + count) [] (reverse (fresh count next)) [] in
    let ms = map (mark text sig.bank count (type_tree b)) steps in
    let first : length (reverse (fresh count next)) ≡ count = length-reverse (fresh count next) ∙ fresh_length count next in
    sym (length-map t.wanted.items (λ i. type_tree t.types i.0)) ∙ ap length G.arguments ∙ run_arguments ms begins ∙ ap (λ n. n + all_mark_arguments ms) first ∙
    ap (λ n. count + n) (steps_arguments text sig.bank count (type_tree b) steps)

-- as many types were read off
pub read_many : (A : ℕ → Ty) (b : Nodes) (old new : Reading) (ids made : List TypeId) → ReadsAll A b old new ids made → length made ≡ length ids
read_many A b old new ids made R =
    sym (length-map made (λ i. type_tree b i.0)) ∙ ap length R.are.are ∙ length-map (map A (map (λ t. t.0) ids)) (instance (renaming new.numbers.keys)) ∙ length-map (map (λ t. t.0) ids) A ∙ length-map ids (λ t. t.0)

-- the formula of a text

terms_many : (b : Nodes) (types : List TypeId) (t : Terms) → length (terms_so_far b types t).terms ≡ length t.stack.items
terms_many b types t = length-reverse (map (spine_tree b) t.stack.items) ∙ length-map t.stack.items (spine_tree b)

pub begins_formed : (b : Nodes) (types : List TypeId) (t : Terms) → t.stack.items ≡ [] → AreTypesOf b types → AreSound b types t
begins_formed b types t none known = record { known = known; spines = subst (All (IsSpine b)) (sym none) (All-nil (IsSpine b)) }

pub next_formed : (text : List ℕ) (c : Nodes) (count : ℕ) (τ : ℕ → Ty) (steps : List Step) (i : ℕ) (d : Step) → i < length steps → (a b : Nodes) (types : List TypeId) (old new : Terms) → HaveParts (drop i steps) (length old.stack.items) → AreSound a types old →
    Forms a b types old new (form (mark text c count τ (get_or steps i d))) → HaveParts (drop (i + 1) steps) (length new.stack.items)
next_formed text c count τ steps i d below a b types old new P S F =
    let s = get_or steps i d in
    let m = mark text c count τ s in
    let p = next_parts steps i d (length old.stack.items) below P in
    let many = terms_many a types old in
    let h = subst (λ k. k ≤ length (terms_so_far a types old).terms) (sym (same_takes text c count τ s)) (subst (λ k. takes s ≤ k) (sym many) p.0) in
    let left : parts_after s (length old.stack.items) ≡ length new.stack.items = sym (same_after text c count τ s (length old.stack.items)) ∙ ap (λ k. mark_parts m k) (sym many) ∙ sym (form_terms m (terms_so_far a types old) h) ∙ sym (ap (λ f. length f.terms) (F.changed S)) ∙ terms_many b types new in
    subst (HaveParts (drop (i + 1) steps)) left p.1

-- the type arguments that are left are enough
next_arguments : (steps : List Step) (i : ℕ) (d : Step) → i < length steps → all_arguments (drop i steps) ≡ arguments_of (get_or steps i d) + all_arguments (drop (i + 1) steps)
next_arguments steps i d below = ap all_arguments (drop_more steps i d below)

pub arguments_here : (steps : List Step) (i : ℕ) (d : Step) → i < length steps → (used n : ℕ) → used + all_arguments (drop i steps) ≤ n → used + arguments_of (get_or steps i d) ≤ n
arguments_here steps i d below used n h = let more = next_arguments steps i d below in omega (arith, more, h)

pub arguments_left : (steps : List Step) (i : ℕ) (d : Step) → i < length steps → (used left n : ℕ) → left ≡ used + arguments_of (get_or steps i d) → used + all_arguments (drop i steps) ≤ n → left + all_arguments (drop (i + 1) steps) ≤ n
arguments_left steps i d below used left n e h = let more = next_arguments steps i d below in omega (arith, more, e, h)

-- one spine fewer
pub one_fewer : (b c : Nodes) (old new : Terms) (id : TermId) (n : ℕ) → suc n < length old.stack.items → IsTaken b c old new id → n < length new.stack.items
one_fewer b c old new id n h T = let e = ap length T.popped.stack ∙ length-append new.stack.items (T.spine ∷ []) in omega (arith, h, e)

pub none_used : (n k : ℕ) → k ≡ 0 → n ≡ n + k
none_used n k e = omega (arith, e)
