-- What the names and clauses of one copy add to the program so far.
use Rattle.std.specs.Global.{Global}
use Rattle.std.proofs.Common.{◌≡◌, ℕ, suc, ◌+◌, ◌-◌, ◌<◌, ◌≤◌, List, [], ◌∷◌, ◌++◌, length, map, take, get_or, reverse, Some, None, refl, sym, ap, subst, ◌∙◌, arith, append_assoc}
use Rattle.std.specs.Prelude.{Vec, slice_get}
use Rattle.std.proofs.lemmas.List.{map-append, take_more, take_all, append-nil, reverse-append}
use Rattle.std.proofs.lemmas.List.Elements.{All-push}
use Rattle.lp_lemmas.proofs.Lists.{get_below, take_suc}
use Rattle.lp_term.specs.Mapped.{IsMap}
use Rattle.lp_term.specs.Nodes.{Nodes, Extends}
use Rattle.lp_term.proofs.Trees.{extends_same}
use Rattle.lp_model.specs.Flatten.{ClauseFormula}
use Rattle.lp_model.specs.Readings.{formula_of}
use Rattle.lp_model.specs.declared.program.ClauseFormula as code
use Rattle.lp_module.specs.Making.{IsSoFar, IsMade, MakesNames}
use Rattle.lp_module.specs.Program.{Next, map_of, in_copy, clauses_in, behind, IsRoot, IsBelow}
use Rattle.lp_module.specs.Renumbering.{renumbered}
use Rattle.lp_module.specs.Sentences.{AreWithin}
use Rattle.lp_module.specs.declared.copies.Making.{Making}
use Rattle.lp_module.specs.declared.module.Module.{Module}
use Rattle.lp_module.specs.declared.numbers.Open.{Open}
use Rattle.lp_module.specs.declared.tree.Hidden.{Hidden}
use Rattle.lp_module.specs.inner.Assembling.{copy_of, next_of, IsOpen, AddsClauses, Opens, Leaves, LeavesNames}
use Rattle.lp_module.proofs.Tabled.{with_clauses, within_later, typed_later}
use Rattle.lp_module.proofs.Composing.{formulas_later}

pub names_none : (m : Making) → MakesNames m m
names_none m = ((λ x. x), refl, extends_same m.bank, refl)

-- the map of a copy
pub is_map : (o : Open) (b d : Nodes) → IsMap (renumbered o.names) (map_of (copy_of 0 o)) b d
is_map o b d = record { kinds = λ k. refl; constants = λ k. refl; types = λ x. refl; terms = λ x l. refl }

-- one more clause
module _ (old self : Making) (to : Nodes) (ks : Vec code.ClauseFormula Global) (o : Open) (clause k : code.ClauseFormula) (at : ℕ) (grown : Extends self.bank to) (pushed : ks.items ≡ self.clauses.items ++ k ∷ []) where
  pub clause_made : k.formula.0 < length to.terms → IsMade old self → IsMade old (with_clauses self to ks)
  clause_made within made s =
      let x = made s in (
        subst (AreWithin to) (sym pushed) (All-push (λ k. k.formula.0 < length to.terms) self.clauses.items k (within_later self.bank to self.clauses.items grown x.0) within),
        x.1,
        x.2,
        x.3,
        x.4,
        x.5,
        typed_later self.bank to self.declared.items grown x.6,
      )

  pub clause_next : at < length o.module.now.clauses.items → clause ≡ get_or o.module.now.clauses.items at clause → IsMade old self → formula_of to k ≡ in_copy (copy_of 0 o) (formula_of o.module.now.bank clause) →
      (IsSoFar old → map (formula_of self.bank) self.clauses.items ≡ map (formula_of old.bank) old.clauses.items ++ map (in_copy (copy_of 0 o)) (map (formula_of o.module.now.bank) (take at o.module.now.clauses.items))) →
      IsSoFar old → map (formula_of to) ks.items ≡ map (formula_of old.bank) old.clauses.items ++ map (in_copy (copy_of 0 o)) (map (formula_of o.module.now.bank) (take (at + 1) o.module.now.clauses.items))
  clause_next h is made f e s =
      ap (map (formula_of to)) pushed ∙ map-append (formula_of to) self.clauses.items (k ∷ []) ∙
      ap (λ l. l ++ formula_of to k ∷ []) (formulas_later self.bank to self.clauses.items grown (made s).0 ∙ e s) ∙
      append_assoc (map (formula_of old.bank) old.clauses.items) (map g (map (formula_of o.module.now.bank) (take at o.module.now.clauses.items))) (formula_of to k ∷ []) ∙
      ap (λ l. map (formula_of old.bank) old.clauses.items ++ l) (sym more)
    where
      g : ClauseFormula → ClauseFormula
      g = in_copy (copy_of 0 o)

      more : map g (map (formula_of o.module.now.bank) (take (at + 1) o.module.now.clauses.items)) ≡ map g (map (formula_of o.module.now.bank) (take at o.module.now.clauses.items)) ++ formula_of to k ∷ []
      more =
          ap (λ l. map g (map (formula_of o.module.now.bank) l)) (take_more o.module.now.clauses.items at clause h ∙ ap (λ x. take at o.module.now.clauses.items ++ x ∷ []) (sym is)) ∙
          ap (map g) (map-append (formula_of o.module.now.bank) (take at o.module.now.clauses.items) (clause ∷ [])) ∙
          map-append g (map (formula_of o.module.now.bank) (take at o.module.now.clauses.items)) (formula_of o.module.now.bank clause ∷ []) ∙
          ap (λ x. map g (map (formula_of o.module.now.bank) (take at o.module.now.clauses.items)) ++ x ∷ []) (sym f)

pub clauses_none : (old : Making) (o : Open) → IsSoFar old → map (formula_of old.bank) old.clauses.items ≡ map (formula_of old.bank) old.clauses.items ++ map (in_copy (copy_of 0 o)) (map (formula_of o.module.now.bank) (take 0 o.module.now.clauses.items))
clauses_none old o s = sym (append-nil (map (formula_of old.bank) old.clauses.items))

pub clauses_all : (old new : Making) (o : Open) (at : ℕ) → length o.module.now.clauses.items ≤ at → IsMade old new → new.next ≡ old.next →
    (IsSoFar old → map (formula_of new.bank) new.clauses.items ≡ map (formula_of old.bank) old.clauses.items ++ map (in_copy (copy_of 0 o)) (map (formula_of o.module.now.bank) (take at o.module.now.clauses.items))) → AddsClauses old new o
clauses_all old new o at h made next e = record {
  made = made;
  next = next;
  clause_list = λ s. e s ∙ ap (λ l. map (formula_of old.bank) old.clauses.items ++ map (in_copy (copy_of 0 o)) (map (formula_of o.module.now.bank) l)) (take_all at o.module.now.clauses.items h);
}

-- names, then clauses
pub adds_then : (a b c : Making) (o : Open) → MakesNames a b → AddsClauses b c o → AddsClauses a c o
adds_then a b c o (made, same, grown, next) adds = record {
  made = λ x. adds.made (made x);
  next = adds.next ∙ next;
  clause_list = λ s. adds.clause_list (made s) ∙ ap (λ l. l ++ map (in_copy (copy_of 0 o)) (clauses_in o.module.now)) (ap (map (formula_of b.bank)) same ∙ formulas_later a.bank b.bank a.clauses.items grown s.0);
}

-- the last open copy is left
pub copy_left : (old new : Making) (next : Hidden) (around less : List Open) (o : Open) → around ≡ less ++ o ∷ [] → AddsClauses old new o → LeavesNames old new o → next_of next ≡ behind o.module.now (next_of new.next) → Leaves old (record new { next = next }) around less
copy_left old new next around less o is adds names then = record {
  left = o;
  inside = ap reverse is ∙ reverse-append less (o ∷ []);
  made = adds.made;
  next = then ∙ ap (λ h. behind o.module.now (next_of h)) adds.next;
  names = record { kinds_are = names.kinds_are; constants_are = names.constants_are; schemes_are = names.schemes_are };
  clause_list = adds.clause_list;
}

-- a copy is opened
pub last_none : (xs : List Open) → None ≡ slice_get xs (length xs - 1) → xs ≡ []
last_none [] e = refl
last_none (y ∷ ys) e =
    let z : length (y ∷ ys) - 1 ≡ length ys = omega arith in
    let (x, is) = get_below (y ∷ ys) (length ys) (omega arith) in
    let f : None ≡ Some x = e ∙ ap (slice_get (y ∷ ys)) z ∙ is in
    absurd (cc)

pub last_some : (xs : List Open) (x : Open) → Some x ≡ slice_get xs (length xs - 1) → (ys : List Open) × (reverse xs ≡ x ∷ ys)
last_some [] x e = absurd (cc)
last_some (y ∷ ys) x e =
    let z : length (y ∷ ys) - 1 ≡ length ys = omega arith in
    let t = take_suc (y ∷ ys) (length ys) x (sym (e ∙ ap (slice_get (y ∷ ys)) z)) in
    let w = take_all (suc (length ys)) (y ∷ ys) (omega arith) in
    (reverse (take (length ys) (y ∷ ys)), ap reverse (sym w ∙ t) ∙ reverse-append (take (length ys) (y ∷ ys)) (x ∷ []))

unfoldable pub opens_root : (old new l : List Open) (o : Open) (m : Module) (from : Next) → l ≡ old → None ≡ slice_get l (length l - 1) → new ≡ old ++ o ∷ [] → o.module.now ≡ m → IsRoot m from (copy_of 0 o) → Opens old new m from
opens_root old new l o m from same none is of root = record {
  opened = o;
  inside = ap reverse is ∙ reverse-append old (o ∷ []);
  of = of;
  is_open = subst (λ os. IsOpen (reverse os) m from (copy_of 0 o)) (sym (last_none l none) ∙ same) root;
}

unfoldable pub opens_below : (old new l : List Open) (o p : Open) (m : Module) (from : Next) → l ≡ old → Some p ≡ slice_get l (length l - 1) → new ≡ old ++ o ∷ [] → o.module.now ≡ m → IsBelow p.module.now (copy_of 0 p) m from (copy_of 0 o) → Opens old new m from
opens_below old new l o p m from same some is of below =
    let (rest, at) = last_some l p some in
    record {
      opened = o;
      inside = ap reverse is ∙ reverse-append old (o ∷ []);
      of = of;
      is_open = subst (λ os. IsOpen os m from (copy_of 0 o)) (sym at ∙ ap reverse same) below;
    }
