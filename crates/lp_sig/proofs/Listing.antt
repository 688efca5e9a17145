-- The entries of constants, one after the other.
use Rattle.std.proofs.Common.{◌≡◌, ℕ, zero, suc, ◌+◌, ◌<◌, ◌≤◌, List, [], ◌∷◌, ◌++◌, length, take, get_or, Some, arith, refl, sym, subst, ◌∙◌}
use Rattle.std.specs.Prelude.{IfSome}
use Rattle.std.proofs.lemmas.List.{take_all}
use Rattle.lp_term.specs.Nodes.{Nodes, type_tree}
use Rattle.lp_sig.specs.Rows.{Row}
use Rattle.lp_sig.specs.Said.{Said}
use Rattle.lp_sig.specs.Types.{Definition}
use Rattle.lp_sig.specs.Constants.{Written, declared_constants, AreInStep, IsSchemeOf, IsTyped, IsNoted, IsConstant, HaveNumbers, KnowsConstants}
use Rattle.lp_sig.specs.declared.constants.Constant.{Constant}
use Rattle.lp_sig.specs.declared.constants.Constants.{Constants}
use Rattle.lp_sig.specs.declared.constants.DeclaredType.{DeclaredType}
use Rattle.lp_sig.specs.declared.entries.ConstantEntry.{ConstantEntry}
use Rattle.lp_sig.proofs.Constancy.{in_step_length}

pub as_entry : (b : Nodes) (said : List (Row Said)) (defs : List (Row Definition)) (n : ℕ) (row : Row Written) (c : Constant) (d : DeclaredType) (e : ConstantEntry) → c.declared ≡ Some d → e.name.items ≡ c.name.items → e.number ≡ n → e.type_vars ≡ d.type_vars → e.scheme ≡ d.scheme →
    IsNoted b said defs n row c → IsConstant b said defs n row e
as_entry b said defs n row c d e some name number vars scheme h =
    let t : IsTyped b said defs row.1 d = subst (λ o. IfSome o (IsTyped b said defs row.1)) some h.typed in
    record {
      name = name ∙ h.name;
      number = number;
      inside = subst (λ s. s.0 < length b.types) (sym scheme) t.inside;
      scheme = subst (λ s. IsSchemeOf said defs row.1 e.type_vars (type_tree b s.0)) (sym scheme) (subst (λ v. IsSchemeOf said defs row.1 v (type_tree b d.scheme.0)) (sym vars) t.scheme);
    }

module _ (b : Nodes) (said : List (Row Said)) (defs : List (Row Definition)) where
  listed_more : (n m : ℕ) (rows : List (Row Written)) (cs : List Constant) (i : ℕ) (c : Constant) (old : List ConstantEntry) (e : ConstantEntry) → AreInStep (IsNoted b said defs) n rows cs → i < length cs → c ≡ get_or cs i c → AreInStep (IsConstant b said defs) n (take i rows) old →
      m ≡ n + i → ((row : Row Written) → IsNoted b said defs m row c → IsConstant b said defs m row e) → AreInStep (IsConstant b said defs) n (take (suc i) rows) (old ++ e ∷ [])
  listed_more n m [] [] i c old e h l at g is f = absurd (omega (arith, l))
  listed_more n m [] (x ∷ cs) i c old e h l at g is f = absurd h
  listed_more n m (r ∷ rs) [] i c old e h l at g is f = absurd h
  listed_more n m (r ∷ rs) (x ∷ cs) zero c [] e h l at g is f =
      let same : n ≡ m = omega (arith, is) in
      (subst (λ n. IsConstant b said defs n r e) (sym same) (f r (subst (IsNoted b said defs m r) (sym at) (subst (λ n. IsNoted b said defs n r x) same h.0))), tt)
  listed_more n m (r ∷ rs) (x ∷ cs) zero c (o ∷ os) e h l at g is f = absurd g
  listed_more n m (r ∷ rs) (x ∷ cs) (suc i) c [] e h l at g is f = absurd g
  listed_more n m (r ∷ rs) (x ∷ cs) (suc i) c (o ∷ os) e h l at g is f = (g.0, listed_more (suc n) m rs cs i c os e h.1 (omega (arith, l)) at g.1 (omega (arith, is)) f)

  pub entry_listed : (rows : List (Row Written)) (cs : List Constant) (i : ℕ) (c : Constant) (old new : List ConstantEntry) (e : ConstantEntry) → i < length cs → c ≡ get_or cs i c → AreInStep (IsNoted b said defs) 32 rows cs → AreInStep (IsConstant b said defs) 32 (take i rows) old →
      ((row : Row Written) → IsNoted b said defs (32 + i) row c → IsConstant b said defs (32 + i) row e) → new ≡ old ++ e ∷ [] → AreInStep (IsConstant b said defs) 32 (take (i + 1) rows) new
  entry_listed rows cs i c old new e l at noted listed is are =
      let one : suc i ≡ i + 1 = omega arith in
      subst (λ n. AreInStep (IsConstant b said defs) 32 (take n rows) new) one (subst (AreInStep (IsConstant b said defs) 32 (take (suc i) rows)) (sym are) (listed_more 32 (32 + i) rows cs i c old e noted l at listed refl is))

  pub all_listed : (rows : List (Row Written)) (cs : List Constant) (i : ℕ) (entries : List ConstantEntry) → length cs ≤ i → AreInStep (IsNoted b said defs) 32 rows cs → AreInStep (IsConstant b said defs) 32 (take i rows) entries → AreInStep (IsConstant b said defs) 32 rows entries
  all_listed rows cs i entries l noted listed =
      let n = in_step_length (IsNoted b said defs) 32 rows cs noted in
      subst (λ rs. AreInStep (IsConstant b said defs) 32 rs entries) (take_all i rows (omega (arith, l, n))) listed

  pub numbers_for_all : (constants : Constants) (rows : List (Row Written)) (i : ℕ) → 32 + i ≤ 65535 → length constants.constants.items ≤ i → KnowsConstants b constants said defs rows → HaveNumbers rows
  numbers_for_all constants rows i l m k =
      let n = in_step_length (IsNoted b said defs) 32 (declared_constants rows) constants.constants.items k.are in
      omega (arith, l, m, n)
