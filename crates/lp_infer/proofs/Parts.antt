-- A text gives its steps the parts, the open abstractions and the type arguments that they need.
use Rattle.std.proofs.Common.{◌≡◌, ℕ, zero, suc, ◌+◌, ◌-◌, ◌<◌, ◌≤◌, List, [], ◌∷◌, ◌++◌, map, reverse, length, drop, get_or, refl, sym, ap, subst, ◌∙◌, arith}
use Rattle.std.specs.Prelude.{All}
use Rattle.std.proofs.lemmas.List.{append-nil, append_assoc, length-append, length-map, length-reverse, drop_more}
use Rattle.lp_calculus.specs.Types.{Ty}
use Rattle.lp_calculus.specs.Term.{Term}
use Rattle.lp_type_laws.specs.Equations.{Equation}
use Rattle.lp_term.specs.Nodes.{Nodes, type_tree}
use Rattle.lp_infer.specs.Typing.{Raw, raw_index, raw_constant, raw_integer, raw_text, raw_abs, raw_app}
use Rattle.lp_infer.specs.Generate.{fresh}
use Rattle.lp_infer.specs.Postfix.{Mark, is_index, is_constant, is_integer, is_text, opens, closes, applies, postfix, mark, IsStep}
use Rattle.lp_infer.specs.Running.{Sofar, sofar, act, run, closed, applied}
use Rattle.lp_infer.specs.Filling.{Formed, form, abstracted, on_argument}
use Rattle.lp_infer.specs.inner.Parts.{takes, parts_after, ends, open_after, arguments_of, all_arguments, HaveParts, HaveOpen, IsShallow}
use Rattle.lp_infer.specs.declared.lookup.Step.{Step}
use Rattle.lp_infer.specs.declared.lookup.Step.TheVariants as step
use Rattle.lp_infer.proofs.Marked.{same_parts}
use Rattle.lp_infer.proofs.Principal.{fresh_length}

-- the same of marks

abbrev pub mark_takes : Mark → ℕ
mark_takes closes = 1
mark_takes applies = 2
mark_takes _ = 0

abbrev pub mark_parts : Mark → ℕ → ℕ
mark_parts (opens given) n = n
mark_parts closes n = n
mark_parts applies n = n - 1
mark_parts _ n = n + 1

abbrev pub mark_ends : Mark → ℕ
mark_ends closes = 1
mark_ends _ = 0

abbrev pub mark_open : Mark → ℕ → ℕ
mark_open (opens given) n = n + 1
mark_open closes n = n - 1
mark_open _ n = n

abbrev pub mark_arguments : Mark → ℕ
mark_arguments (is_constant c s) = s.count
mark_arguments _ = 0

abbrev pub all_mark_arguments : List Mark → ℕ
all_mark_arguments [] = 0
all_mark_arguments (m ∷ ms) = mark_arguments m + all_mark_arguments ms

abbrev pub HaveMarkParts : List Mark → ℕ → Type 0
HaveMarkParts [] n = n ≡ 1
HaveMarkParts (m ∷ ms) n = (mark_takes m ≤ n) × HaveMarkParts ms (mark_parts m n)

abbrev pub HaveMarkOpen : List Mark → ℕ → Type 0
HaveMarkOpen [] n = Unit {0}
HaveMarkOpen (m ∷ ms) n = (mark_ends m ≤ n) × HaveMarkOpen ms (mark_open m n)

-- a text puts one part on the stack

none_less : (n : ℕ) → 0 ≤ n
none_less n = omega arith

one_less : (n : ℕ) → 1 ≤ n + 1
one_less n = omega arith

two_less : (n : ℕ) → 2 ≤ n + 1 + 1
two_less n = omega arith

one_back : (n : ℕ) → n ≡ n + 1 - 1
one_back n = omega arith

text_parts : (R : Raw) (ms : List Mark) (n : ℕ) → HaveMarkParts ms (n + 1) → HaveMarkParts (postfix R ++ ms) n
text_parts (raw_index i) ms n h = (none_less n, h)
text_parts (raw_constant c s) ms n h = (none_less n, h)
text_parts (raw_integer z) ms n h = (none_less n, h)
text_parts (raw_text t) ms n h = (none_less n, h)
text_parts (raw_abs given b) ms n h =
    (none_less n, subst (λ l. HaveMarkParts l n) (sym (append_assoc (postfix b) (closes ∷ []) ms)) (text_parts b (closes ∷ ms) n (one_less n, h)))
text_parts (raw_app f u) ms n h =
    subst (λ l. HaveMarkParts l n) (sym (same_parts (postfix f) (postfix u) ms applies))
    (text_parts f (postfix u ++ (applies ∷ ms)) n (text_parts u (applies ∷ ms) (n + 1) (two_less n, subst (HaveMarkParts ms) (one_back (n + 1)) h)))

text_open : (R : Raw) (ms : List Mark) (n : ℕ) → HaveMarkOpen ms n → HaveMarkOpen (postfix R ++ ms) n
text_open (raw_index i) ms n h = (none_less n, h)
text_open (raw_constant c s) ms n h = (none_less n, h)
text_open (raw_integer z) ms n h = (none_less n, h)
text_open (raw_text t) ms n h = (none_less n, h)
text_open (raw_abs given b) ms n h =
    (none_less n, subst (λ l. HaveMarkOpen l (n + 1)) (sym (append_assoc (postfix b) (closes ∷ []) ms)) (text_open b (closes ∷ ms) (n + 1) (one_less n, subst (HaveMarkOpen ms) (one_back n) h)))
text_open (raw_app f u) ms n h =
    subst (λ l. HaveMarkOpen l n) (sym (same_parts (postfix f) (postfix u) ms applies)) (text_open f (postfix u ++ (applies ∷ ms)) n (text_open u (applies ∷ ms) n (none_less n, h)))

-- steps are as their marks

module _ (text : List ℕ) (b : Nodes) (count : ℕ) (τ : ℕ → Ty) where
  pub same_takes : (s : Step) → mark_takes (mark text b count τ s) ≡ takes s
  same_takes (step.Bound i) = refl
  same_takes (step.Variable d i) = refl
  same_takes (step.Standard i) = refl
  same_takes (step.Declared i v id) = refl
  same_takes (step.Integer z) = refl
  same_takes (step.Text s) = refl
  same_takes (step.Open given) = refl
  same_takes step.Close = refl
  same_takes step.Apply = refl

  pub same_after : (s : Step) (n : ℕ) → mark_parts (mark text b count τ s) n ≡ parts_after s n
  same_after (step.Bound i) n = refl
  same_after (step.Variable d i) n = refl
  same_after (step.Standard i) n = refl
  same_after (step.Declared i v id) n = refl
  same_after (step.Integer z) n = refl
  same_after (step.Text s) n = refl
  same_after (step.Open given) n = refl
  same_after step.Close n = refl
  same_after step.Apply n = refl

  pub same_ends : (s : Step) → mark_ends (mark text b count τ s) ≡ ends s
  same_ends (step.Bound i) = refl
  same_ends (step.Variable d i) = refl
  same_ends (step.Standard i) = refl
  same_ends (step.Declared i v id) = refl
  same_ends (step.Integer z) = refl
  same_ends (step.Text s) = refl
  same_ends (step.Open given) = refl
  same_ends step.Close = refl
  same_ends step.Apply = refl

  pub same_open : (s : Step) (n : ℕ) → mark_open (mark text b count τ s) n ≡ open_after s n
  same_open (step.Bound i) n = refl
  same_open (step.Variable d i) n = refl
  same_open (step.Standard i) n = refl
  same_open (step.Declared i v id) n = refl
  same_open (step.Integer z) n = refl
  same_open (step.Text s) n = refl
  same_open (step.Open given) n = refl
  same_open step.Close n = refl
  same_open step.Apply n = refl

  same_arguments : (s : Step) → mark_arguments (mark text b count τ s) ≡ arguments_of s
  same_arguments (step.Bound i) = refl
  same_arguments (step.Variable d i) = refl
  same_arguments (step.Standard i) = refl
  same_arguments (step.Declared i v id) = refl
  same_arguments (step.Integer z) = refl
  same_arguments (step.Text s) = refl
  same_arguments (step.Open given) = refl
  same_arguments step.Close = refl
  same_arguments step.Apply = refl

  steps_parts : (ss : List Step) (n : ℕ) → HaveMarkParts (map (mark text b count τ) ss) n → HaveParts ss n
  steps_parts [] n h = h
  steps_parts (s ∷ ss) n h = (subst (λ k. k ≤ n) (same_takes s) h.0, steps_parts ss (parts_after s n) (subst (HaveMarkParts (map (mark text b count τ) ss)) (same_after s n) h.1))

  steps_open : (ss : List Step) (n : ℕ) → HaveMarkOpen (map (mark text b count τ) ss) n → HaveOpen ss n
  steps_open [] n h = h
  steps_open (s ∷ ss) n h = (subst (λ k. k ≤ n) (same_ends s) h.0, steps_open ss (open_after s n) (subst (HaveMarkOpen (map (mark text b count τ) ss)) (same_open s n) h.1))

  pub steps_arguments : (ss : List Step) → all_mark_arguments (map (mark text b count τ) ss) ≡ all_arguments ss
  steps_arguments [] = refl
  steps_arguments (s ∷ ss) = let e = same_arguments s in let f = steps_arguments ss in cc

  pub parts_of_text : (R : Raw) (ss : List Step) → postfix R ≡ map (mark text b count τ) ss → HaveParts ss 0
  parts_of_text R ss e = steps_parts ss 0 (subst (λ l. HaveMarkParts l 0) (append-nil (postfix R) ∙ e) (text_parts R [] 0 refl))

  pub open_of_text : (R : Raw) (ss : List Step) (n : ℕ) → postfix R ≡ map (mark text b count τ) ss → HaveOpen ss n
  open_of_text R ss n e = steps_open ss n (subst (λ l. HaveMarkOpen l n) (append-nil (postfix R) ∙ e) (text_open R [] n tt))

-- step by step

pub next_parts : (ss : List Step) (i : ℕ) (d : Step) (n : ℕ) → i < length ss → HaveParts (drop i ss) n → (takes (get_or ss i d) ≤ n) × HaveParts (drop (i + 1) ss) (parts_after (get_or ss i d) n)
next_parts ss i d n l h = subst (λ xs. HaveParts xs n) (drop_more ss i d l) h

pub next_open : (ss : List Step) (i : ℕ) (d : Step) (n : ℕ) → i < length ss → HaveOpen (drop i ss) n → (ends (get_or ss i d) ≤ n) × HaveOpen (drop (i + 1) ss) (open_after (get_or ss i d) n)
next_open ss i d n l h = subst (λ xs. HaveOpen xs n) (drop_more ss i d l) h

drop_past : (ss : List Step) (i : ℕ) → length ss ≤ i → drop i ss ≡ []
drop_past [] zero l = refl
drop_past [] (suc i) l = refl
drop_past (s ∷ ss) zero l = absurd (omega (arith, l))
drop_past (s ∷ ss) (suc i) l = drop_past ss i (omega (arith, l))

pub last_part : (ss : List Step) (i n : ℕ) → length ss ≤ i → HaveParts (drop i ss) n → n ≡ 1
last_part ss i n l h = subst (λ xs. HaveParts xs n) (drop_past ss i l) h

pub shallow : (n : ℕ) (s : Step) → IsStep n s → IsShallow s
shallow n (step.Bound i) k = tt
shallow n (step.Variable d i) k = k
shallow n (step.Standard i) k = tt
shallow n (step.Declared i v id) k = tt
shallow n (step.Integer z) k = tt
shallow n (step.Text s) k = tt
shallow n (step.Open given) k = tt
shallow n step.Close k = tt
shallow n step.Apply k = tt

pub all_shallow : (n : ℕ) (ss : List Step) → All (IsStep n) ss → All IsShallow ss
all_shallow n ss h = λ i d l. shallow n (get_or ss i d) (h i d l)

-- what a mark does to the lists of a text's types

closed_stack : (n : ℕ) (es : List Equation) (as_ C st : List Ty) → 1 ≤ length st → 1 ≤ length C → length (closed n es as_ C st).stack ≡ length st
closed_stack n es as_ [] st a b = absurd (omega (arith, b))
closed_stack n es as_ (P ∷ C) [] a b = absurd (omega (arith, a))
closed_stack n es as_ (P ∷ C) (T ∷ st) a b = refl

closed_context : (n : ℕ) (es : List Equation) (as_ C st : List Ty) → 1 ≤ length st → 1 ≤ length C → length (closed n es as_ C st).context ≡ length C - 1
closed_context n es as_ [] st a b = absurd (omega (arith, b))
closed_context n es as_ (P ∷ C) [] a b = absurd (omega (arith, a))
closed_context n es as_ (P ∷ C) (T ∷ st) a b = omega arith

closed_arguments : (n : ℕ) (es : List Equation) (as_ C st : List Ty) → (closed n es as_ C st).arguments ≡ as_
closed_arguments n es as_ [] st = refl
closed_arguments n es as_ (P ∷ C) [] = refl
closed_arguments n es as_ (P ∷ C) (T ∷ st) = refl

applied_stack : (n : ℕ) (es : List Equation) (as_ C st : List Ty) → 2 ≤ length st → length (applied C n es as_ st).stack ≡ length st - 1
applied_stack n es as_ C [] a = absurd (omega (arith, a))
applied_stack n es as_ C (U ∷ []) a = absurd (omega (arith, a))
applied_stack n es as_ C (U ∷ F ∷ st) a = omega arith

applied_context : (n : ℕ) (es : List Equation) (as_ C st : List Ty) → (applied C n es as_ st).context ≡ C
applied_context n es as_ C [] = refl
applied_context n es as_ C (U ∷ []) = refl
applied_context n es as_ C (U ∷ F ∷ st) = refl

applied_arguments : (n : ℕ) (es : List Equation) (as_ C st : List Ty) → (applied C n es as_ st).arguments ≡ as_
applied_arguments n es as_ C [] = refl
applied_arguments n es as_ C (U ∷ []) = refl
applied_arguments n es as_ C (U ∷ F ∷ st) = refl

pub act_stack : (m : Mark) (s : Sofar) → mark_takes m ≤ length s.stack → mark_ends m ≤ length s.context → length (act m s).stack ≡ mark_parts m (length s.stack)
act_stack (is_index i) s a b = omega arith
act_stack (is_constant c h) s a b = omega arith
act_stack (is_integer z) s a b = omega arith
act_stack (is_text t) s a b = omega arith
act_stack (opens given) s a b = refl
act_stack closes s a b = closed_stack s.next s.equations s.arguments s.context s.stack a b
act_stack applies s a b = applied_stack s.next s.equations s.arguments s.context s.stack a

pub act_context : (m : Mark) (s : Sofar) → mark_takes m ≤ length s.stack → mark_ends m ≤ length s.context → length (act m s).context ≡ mark_open m (length s.context)
act_context (is_index i) s a b = refl
act_context (is_constant c h) s a b = refl
act_context (is_integer z) s a b = refl
act_context (is_text t) s a b = refl
act_context (opens given) s a b = omega arith
act_context closes s a b = closed_context s.next s.equations s.arguments s.context s.stack a b
act_context applies s a b = ap length (applied_context s.next s.equations s.arguments s.context s.stack)

act_arguments : (m : Mark) (s : Sofar) → length (act m s).arguments ≡ length s.arguments + mark_arguments m
act_arguments (is_index i) s = omega arith
act_arguments (is_constant c h) s = length-append s.arguments (fresh h.count s.next) ∙ ap (λ n. length s.arguments + n) (fresh_length h.count s.next)
act_arguments (is_integer z) s = omega arith
act_arguments (is_text t) s = omega arith
act_arguments (opens given) s = omega arith
act_arguments closes s = let e = ap length (closed_arguments s.next s.equations s.arguments s.context s.stack) in omega (arith, e)
act_arguments applies s = let e = ap length (applied_arguments s.next s.equations s.arguments s.context s.stack) in omega (arith, e)

pub run_arguments : (ms : List Mark) (s : Sofar) → length (run ms s).arguments ≡ length s.arguments + all_mark_arguments ms
run_arguments [] s = omega arith
run_arguments (m ∷ ms) s = let e = act_arguments m s in let f = run_arguments ms (act m s) in omega (arith, e, f)

-- what a mark does to the terms so far

pub form_terms : (m : Mark) (f : Formed) → mark_takes m ≤ length f.terms → length (form m f).terms ≡ mark_parts m (length f.terms)
form_terms (is_index i) f a = omega arith
form_terms (is_constant c h) f a = omega arith
form_terms (is_integer z) f a = omega arith
form_terms (is_text t) f a = omega arith
form_terms (opens given) f a = refl
form_terms closes f a = abstracted_many f.terms where
  abstracted_many : (ts : List Term) → length (abstracted ts) ≡ length ts
  abstracted_many [] = refl
  abstracted_many (t ∷ ts) = refl
form_terms applies f a = argument_many f.terms a where
  argument_many : (ts : List Term) → 2 ≤ length ts → length (on_argument ts) ≡ length ts - 1
  argument_many [] b = absurd (omega (arith, b))
  argument_many (u ∷ []) b = absurd (omega (arith, b))
  argument_many (u ∷ g ∷ ts) b = omega arith
