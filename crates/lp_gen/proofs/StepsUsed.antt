-- What the steps of a term take, one after the other, and that each finds what it takes.
use Rattle.std.proofs.Common.{◌≡◌, ◌∙◌, ℕ, zero, suc, ◌+◌, ◌-◌, ◌≤◌, List, [], ◌∷◌, ◌++◌, length, map, drop, Bool, true, false, Option, Some, None, ap, refl, sym, subst, arith}
use Rattle.std.specs.Prelude.{slice_get, if◌then◌else◌}
use Rattle.std.proofs.lemmas.List.{map-append, length-append, length-take}
use Rattle.lp_calculus.specs.Types.{Ty}
use Rattle.lp_calculus.specs.Term.{Term, Atom, index, atom, abs, app, constant, integer, text, eigen, logic, param}
use Rattle.lp_calculus.specs.Typing.{o_type}
use Rattle.lp_term.specs.Nodes.{Nodes}
use Rattle.lp_gen.specs.declared.emitter.Emitter.{Emitter}
use Rattle.lp_gen.specs.declared.fault.RecordRefusal.{RecordRefusal}
use Rattle.lp_gen.specs.declared.term_steps.TermStep.{TermStep}
use Rattle.lp_gen.specs.Registers.{both, step_takes, steps_take}
use Rattle.lp_gen.specs.Steps.{from_of, to_of, Step, make_variable, from_register, apply_last, abstract_last, one_step, set_level, Seen, Around, at_level, level_in, Listed, listed, Headed, headed, index_listed, bound_listed, level_listed, found_listed, seen_listed, atom_listed}
use Rattle.lp_gen.specs.inner.Listing.{plain_step}
use Rattle.lp_gen.specs.inner.Stacked.{IsStacked, stack_behind, AreStacked, stack_all}
use Rattle.lp_gen.specs.inner.Using.{Uses, Lacks, AtMost}
use Rattle.lp_gen.specs.inner.Works.{last_of, first_of}
use Rattle.lp_gen.proofs.Using.{same_amount, uses_both, uses_same, lacks_behind}

-- registers that are taken off

pub last_length : (n : ℕ) (rs : List ℕ) → n ≤ length rs → length (last_of n rs) ≡ n
last_length n rs l = dropped (length rs - n) rs ∙ omega (arith, l)
  where
    dropped : (k : ℕ) (xs : List ℕ) → length (drop k xs) ≡ length xs - k
    dropped zero [] = omega arith
    dropped zero (x ∷ xs) = omega arith
    dropped (suc k) [] = omega arith
    dropped (suc k) (x ∷ xs) = dropped k xs ∙ omega arith

pub first_length : (n : ℕ) (rs : List ℕ) → length (first_of n rs) ≡ length rs - n
first_length n rs = length-take (length rs - n) rs ∙ omega arith

pub push_length : (rs : List ℕ) (r : ℕ) → length (rs ++ r ∷ []) ≡ suc (length rs)
push_length rs r = length-append rs (r ∷ []) ∙ omega arith

-- steps one after the other

pub steps_joined : (ss ts : List Step) → steps_take (ss ++ ts) ≡ both (steps_take ss) (steps_take ts)
steps_joined [] ts = same_amount _ _ (omega arith) (omega arith) (omega arith) (omega arith)
steps_joined (s ∷ ss) ts =
    let e = steps_joined ss ts in
    let t = ap (λ a. a.types) e in
    let r = ap (λ a. a.terms) e in
    let p = ap (λ a. a.bytes) e in
    let f = ap (λ a. a.misfits) e in
    same_amount _ _ (omega (arith, t)) (omega (arith, r)) (omega (arith, p)) (omega (arith, f))

one_step_takes : (s : Step) → steps_take (s ∷ []) ≡ step_takes s
one_step_takes s = same_amount _ _ (omega arith) (omega arith) (omega arith) (omega arith)

pub steps_pushed : (ss : List Step) (s : Step) → steps_take (ss ++ s ∷ []) ≡ both (steps_take ss) (step_takes s)
steps_pushed ss s = steps_joined ss (s ∷ []) ∙ ap (both (steps_take ss)) (one_step_takes s)

pub steps_use_next : (b : Nodes) (o m n : Emitter) (xs : List TermStep) (x : TermStep) → Uses o m (steps_take (map (plain_step b) xs)) → Uses m n (step_takes (plain_step b x)) →
    Uses o n (steps_take (map (plain_step b) (xs ++ x ∷ [])))
steps_use_next b o m n xs x u v = uses_same (sym (ap steps_take (map-append (plain_step b) xs (x ∷ [])) ∙ steps_pushed (map (plain_step b) xs) (plain_step b x))) (uses_both u v)

pub steps_lack : (b : Nodes) (o m : Emitter) (xs all : List TermStep) (x : TermStep) (e : RecordRefusal) → ((rest : List TermStep) × (all ≡ xs ++ x ∷ rest)) →
    Uses o m (steps_take (map (plain_step b) xs)) → Lacks m (step_takes (plain_step b x)) e → Lacks o (steps_take (map (plain_step b) all)) e
steps_lack b o m xs all x e r u p =
    let ss = map (plain_step b) xs in
    let ts = map (plain_step b) r.0 in
    let whole : steps_take (map (plain_step b) all) ≡ both (steps_take ss) (both (step_takes (plain_step b x)) (steps_take ts)) =
    ap steps_take (ap (map (plain_step b)) r.1 ∙ map-append (plain_step b) xs (x ∷ r.0)) ∙ steps_joined ss (plain_step b x ∷ ts) in
    let a = both (steps_take ss) (step_takes (plain_step b x)) in
    let c = both (steps_take ss) (both (step_takes (plain_step b x)) (steps_take ts)) in
    let most : AtMost a c = record { types = omega arith; terms = omega arith; bytes = omega arith; misfits = omega arith } in
    subst (λ k. Lacks o k e) (sym whole) (lacks_behind c u most p)

pub stack_pushed : (d : ℕ) (ss : List Step) (s : Step) → stack_all d (ss ++ s ∷ []) ≡ stack_behind (stack_all d ss) s
stack_pushed d [] s = refl
stack_pushed d (t ∷ ss) s = stack_pushed (stack_behind d t) ss s

pub stack_next : (b : Nodes) (d n : ℕ) (xs : List TermStep) (x : TermStep) → n ≡ stack_behind (stack_all d (map (plain_step b) xs)) (plain_step b x) → n ≡ stack_all d (map (plain_step b) (xs ++ x ∷ []))
stack_next b d n xs x e = e ∙ sym (ap (stack_all d) (map-append (plain_step b) xs (x ∷ [])) ∙ stack_pushed d (map (plain_step b) xs) (plain_step b x))

stacked_there : (d : ℕ) (ss : List Step) (s : Step) (ts : List Step) → AreStacked d (ss ++ s ∷ ts) → IsStacked (stack_all d ss) s
stacked_there d [] s ts a = a.0
stacked_there d (t ∷ ss) s ts a = stacked_there (stack_behind d t) ss s ts a.1

pub stacked_at : (b : Nodes) (d : ℕ) (xs all : List TermStep) (x : TermStep) → ((rest : List TermStep) × (all ≡ xs ++ x ∷ rest)) → AreStacked d (map (plain_step b) all) →
    IsStacked (stack_all d (map (plain_step b) xs)) (plain_step b x)
stacked_at b d xs all x r a =
    stacked_there d (map (plain_step b) xs) (plain_step b x) (map (plain_step b) r.0) (subst (AreStacked d) (ap (map (plain_step b)) r.1 ∙ map-append (plain_step b) xs (x ∷ r.0)) a)

-- the steps of a term find what they take, and leave one more

abbrev Leads : (d n : ℕ) → List Step → Type 0
Leads d n ss = AreStacked d ss × (stack_all d ss ≡ n)

leads_on : (d m n : ℕ) (ss ts : List Step) → Leads d m ss → Leads m n ts → Leads d n (ss ++ ts)
leads_on d m n [] ts x y = subst (λ k. Leads k n ts) (sym x.1) y
leads_on d m n (s ∷ ss) ts x y = let z = leads_on (stack_behind d s) m n ss ts (x.0.1, x.1) y in ((x.0.0, z.0), z.1)

seen_leads : (d : ℕ) (a : Around) (l : ℕ) (v : Seen) (t : Bool) → v.is_set ≡ t → Leads d (suc d) (seen_listed a l v).steps
seen_leads d a l v t e = go t (seen_listed a l v) (λ i. if e i then one_step a (from_register v.register) else made)
  where
    made : Listed
    made = record { steps = make_variable v.register v.of ∷ from_register v.register ∷ []; around = set_level a l }

    go : (t : Bool) (x : Listed) → x ≡ (if t then one_step a (from_register v.register) else made) → Leads d (suc d) x.steps
    go true x e = subst (λ (x : Listed). Leads d (suc d) x.steps) (sym e) ((tt, tt), refl)
    go false x e = subst (λ (x : Listed). Leads d (suc d) x.steps) (sym e) ((tt, (tt, tt)), refl)

found_leads : (d : ℕ) (a : Around) (l : ℕ) (o : Option Seen) → Leads d (suc d) (found_listed a l o).steps
found_leads d a l None = ((tt, tt), refl)
found_leads d a l (Some v) = seen_leads d a l v v.is_set refl

level_leads : (d : ℕ) (a : Around) (o : Option ℕ) → Leads d (suc d) (level_listed a o).steps
level_leads d a None = ((tt, tt), refl)
level_leads d a (Some l) = found_leads d a l (at_level a l)

bound_leads : (d : ℕ) (C : List Ty) (a : Around) (i : ℕ) (o : Option Ty) → Leads d (suc d) (bound_listed C a i o).steps
bound_leads d C a i (Some T) = ((tt, tt), refl)
bound_leads d C a i None = level_leads d a (level_in a (i - length C))

index_leads : (d : ℕ) (C : List Ty) (a : Around) (i : ℕ) → Leads d (suc d) (index_listed C a i).steps
index_leads d C a i = bound_leads d C a i (slice_get C i)

atom_leads : (d : ℕ) (C : List Ty) (a : Around) (s : Atom) → Leads d (suc d) (atom_listed C a s).steps
atom_leads d C a (constant c ts) = ((tt, tt), refl)
atom_leads d C a (integer z) = ((tt, tt), refl)
atom_leads d C a (text s) = ((tt, tt), refl)
atom_leads d C a (eigen k) = index_leads d C a 0
atom_leads d C a (logic x l) = index_leads d C a 0
atom_leads d C a (param k T) = index_leads d C a 0

abstracted_leads : (d : ℕ) (T : Ty) (l : Listed) → Leads d (suc d) l.steps → Leads d (suc d) (l.steps ++ abstract_last T ∷ [])
abstracted_leads d T l x = leads_on d (suc d) (suc d) l.steps (abstract_last T ∷ []) x ((omega arith, tt), refl)

argument_leads : (d : ℕ) (h : Headed) (l : Listed) → Leads d (suc (h.count + d)) h.steps → Leads (suc (h.count + d)) (suc (suc (h.count + d))) l.steps → Leads d (suc ((h.count + 1) + d)) (h.steps ++ l.steps)
argument_leads d h l x y =
    let z = leads_on d (suc (h.count + d)) (suc (suc (h.count + d))) h.steps l.steps x y in
    (z.0, z.1 ∙ omega arith)

applied_leads : (d n : ℕ) (ss : List Step) → Leads d (suc (n + d)) ss → Leads d (suc d) (ss ++ apply_last n ∷ [])
applied_leads d n ss x = leads_on d (suc (n + d)) (suc d) ss (apply_last n ∷ []) x ((omega arith, tt), omega arith)

mutual
  pub listed_leads : (K : ℕ → List Ty → Ty) (C : List Ty) (a : Around) (T : Ty) (t : Term) (d : ℕ) → Leads d (suc d) (listed K C a T t).steps
  listed_leads K C a T (index i) d = index_leads d C a i
  listed_leads K C a T (atom s) d = atom_leads d C a s
  listed_leads K C a T (abs b) d = abstracted_leads d (from_of T) (listed K (from_of T ∷ C) a (to_of T) b) (listed_leads K (from_of T ∷ C) a (to_of T) b d)
  listed_leads K C a T (app t u) d =
      let h = headed K C a t in
      let l = listed K C h.around (from_of h.function) u in
      applied_leads d (h.count + 1) (h.steps ++ l.steps) (argument_leads d h l (headed_leads K C a t d) (listed_leads K C h.around (from_of h.function) u (suc (h.count + d))))

  headed_leads : (K : ℕ → List Ty → Ty) (C : List Ty) (a : Around) (t : Term) (d : ℕ) → Leads d (suc ((headed K C a t).count + d)) (headed K C a t).steps
  headed_leads K C a (index i) d = let x = index_leads d C a i in (x.0, x.1 ∙ omega arith)
  headed_leads K C a (atom s) d = let x = atom_leads d C a s in (x.0, x.1 ∙ omega arith)
  headed_leads K C a (abs b) d =
      let x = abstracted_leads d o_type (listed K (o_type ∷ C) a o_type b) (listed_leads K (o_type ∷ C) a o_type b d) in
      (x.0, x.1 ∙ omega arith)
  headed_leads K C a (app t u) d =
      let h = headed K C a t in
      argument_leads d h (listed K C h.around (from_of h.function) u) (headed_leads K C a t d) (listed_leads K C h.around (from_of h.function) u (suc (h.count + d)))
