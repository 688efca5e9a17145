-- Behind terms and heads the same variables stand around: only more of them are set.
use Rattle.std.proofs.Common.{◌≡◌, ◌∙◌, ℕ, ◌-◌, List, [], ◌∷◌, length, reverse, Bool, true, false, Option, Some, None, ap, refl}
use Rattle.std.specs.Prelude.{nat_le, if◌then◌else◌, slice_get}
use Rattle.std.proofs.lemmas.List.{length-reverse}
use Rattle.lp_calculus.specs.Types.{Ty}
use Rattle.lp_calculus.specs.Term.{Term, Atom, index, atom, abs, app, constant, integer, text, eigen, logic, param}
use Rattle.lp_calculus.specs.Typing.{o_type}
use Rattle.lp_calculus.specs.Spine.{head_of, arguments}
use Rattle.lp_gen.specs.Steps.{from_of, to_of, Seen, Around, at_level, level_in, set_level, marked, one_step, make_variable, from_register, found_listed, level_listed, bound_listed, atom_listed, listed, headed, head_type, first_place}
use Rattle.lp_gen.specs.Registers.{term_left, left_by_first, behind_argument, behind_arguments, all_set, in_body, unset, with_unset}
use Rattle.lp_gen.specs.inner.Recorded.{front_behind}
use Rattle.lp_gen.proofs.AroundSet.{marked_length}

pub record Keeps (a b : Around) : Type 0 where
  pub base : b.base ≡ a.base
  pub count : length b.own ≡ length a.own
  pub sets : all_set b.own ≡ all_set a.own
  pub captured : b.captured ≡ a.captured

pub keeps_same : (a : Around) → Keeps a a
keeps_same a = record { base = refl; count = refl; sets = refl; captured = refl }

pub keeps_then : {a b c : Around} → Keeps a b → Keeps b c → Keeps a c
keeps_then x y = record { base = y.base ∙ x.base; count = y.count ∙ x.count; sets = y.sets ∙ x.sets; captured = y.captured ∙ x.captured }

marked_sets : (vs : List Seen) (i : ℕ) → all_set (marked vs i) ≡ all_set vs
marked_sets [] i = refl
marked_sets (v ∷ vs) ℕ.zero = refl
marked_sets (v ∷ vs) (ℕ.suc i) = ap (λ l. record { register = v.register; of = v.of; is_set = true } ∷ l) (marked_sets vs i)

keeps_set : (a : Around) (l : ℕ) → Keeps a (set_level a l)
keeps_set a l = go (nat_le a.base l)
  where
    go : (t : Bool) → Keeps a (if t then record { own = marked a.own (l - a.base); base = a.base; captured = a.captured } else a)
    go true = record { base = refl; count = marked_length a.own (l - a.base); sets = marked_sets a.own (l - a.base); captured = refl }
    go false = keeps_same a

found_keeps : (a : Around) (l : ℕ) (o : Option Seen) → Keeps a (found_listed a l o).around
found_keeps a l None = keeps_same a
found_keeps a l (Some v) = go v.is_set
  where
    go : (t : Bool) → Keeps a (if t then one_step a (from_register v.register) else record { steps = make_variable v.register v.of ∷ from_register v.register ∷ []; around = set_level a l }).around
    go true = keeps_same a
    go false = keeps_set a l

level_keeps : (a : Around) (o : Option ℕ) → Keeps a (level_listed a o).around
level_keeps a None = keeps_same a
level_keeps a (Some l) = found_keeps a l (at_level a l)

index_keeps : (C : List Ty) (a : Around) (i : ℕ) (o : Option Ty) → Keeps a (bound_listed C a i o).around
index_keeps C a i (Some T) = keeps_same a
index_keeps C a i None = level_keeps a (level_in a (i - length C))

atom_keeps : (C : List Ty) (a : Around) (s : Atom) → Keeps a (atom_listed C a s).around
atom_keeps C a (constant c ts) = keeps_same a
atom_keeps C a (integer z) = keeps_same a
atom_keeps C a (text s) = keeps_same a
atom_keeps C a (eigen k) = index_keeps C a 0 (slice_get C 0)
atom_keeps C a (logic x l) = index_keeps C a 0 (slice_get C 0)
atom_keeps C a (param k T) = index_keeps C a 0 (slice_get C 0)

module _ (K : ℕ → List Ty → Ty) where
  mutual
    listed_keeps : (C : List Ty) (a : Around) (T : Ty) (t : Term) → Keeps a (listed K C a T t).around
    listed_keeps C a T (index i) = index_keeps C a i (slice_get C i)
    listed_keeps C a T (atom s) = atom_keeps C a s
    listed_keeps C a T (abs b) = listed_keeps (from_of T ∷ C) a (to_of T) b
    listed_keeps C a T (app t u) = keeps_then (headed_keeps C a t) (listed_keeps C (headed K C a t).around (from_of (headed K C a t).function) u)

    headed_keeps : (C : List Ty) (a : Around) (t : Term) → Keeps a (headed K C a t).around
    headed_keeps C a (index i) = index_keeps C a i (slice_get C i)
    headed_keeps C a (atom s) = atom_keeps C a s
    headed_keeps C a (abs b) = listed_keeps (o_type ∷ C) a o_type b
    headed_keeps C a (app t u) = keeps_then (headed_keeps C a t) (listed_keeps C (headed K C a t).around (from_of (headed K C a t).function) u)

  term_keeps : (a : Around) (F : Ty) (t : Term) → Keeps a (term_left K a F t)
  term_keeps a F (index i) = listed_keeps [] a F (index i)
  term_keeps a F (atom (constant c Ts)) = keeps_same a
  term_keeps a F (atom (integer z)) = keeps_same a
  term_keeps a F (atom (text s)) = keeps_same a
  term_keeps a F (atom (eigen k)) = listed_keeps [] a F (atom (eigen k))
  term_keeps a F (atom (logic x l)) = listed_keeps [] a F (atom (logic x l))
  term_keeps a F (atom (param k T)) = listed_keeps [] a F (atom (param k T))
  term_keeps a F (abs b) = listed_keeps [] a F (abs b)
  term_keeps a F (app t u) = listed_keeps [] a F (app t u)

  argument_keeps : (a : Around) (F : Ty) (t : Term) (o : Option (ℕ × ℕ)) → Keeps a (left_by_first K a F t o)
  argument_keeps a F t (Some p) = keeps_set a p.0
  argument_keeps a F t None = term_keeps a F t

  arguments_keep : (a : Around) (F : Ty) (ts : List Term) → Keeps a (behind_arguments K a F ts)
  arguments_keep a F [] = keeps_same a
  arguments_keep a F (t ∷ ts) = keeps_then (argument_keeps a (from_of F) t (first_place a t)) (arguments_keep (behind_argument K a (from_of F) t) (to_of F) ts)

  pub front_keeps : (a : Around) (o : Option Term) → Keeps a (front_behind K a o)
  front_keeps a None = keeps_same a
  front_keeps a (Some t) = arguments_keep a (head_type K [] a (head_of t)) (arguments t)

  -- so in the body it does not matter what the head was
  pub front_in_body : (a : Around) (o : Option Term) → in_body (front_behind K a o) ≡ in_body a
  front_in_body a o = let x = front_keeps a o in (λ i. record { own = x.sets i; base = x.base i; captured = x.captured i })

all_set_length : (vs : List Seen) → length (all_set vs) ≡ length vs
all_set_length [] = refl
all_set_length (v ∷ vs) = ap ℕ.suc (all_set_length vs)

unset_length : (Ts : List Ty) → length (unset Ts) ≡ length Ts
unset_length [] = refl
unset_length (T ∷ Ts) = ap ℕ.suc (unset_length Ts)

pub unset_count : (s : Around) (Ts : List Ty) → length (in_body (with_unset s Ts)).own ≡ length Ts
unset_count s Ts = all_set_length (unset (reverse Ts)) ∙ unset_length (reverse Ts) ∙ length-reverse Ts
