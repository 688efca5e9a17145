-- At its first byte a record breaks no rule as a whole.
use Rattle.std.proofs.Common.{◌≡◌, ◌≤◌, ◌+◌, List, [], ◌∷◌, ◌++◌, Bool, true, false, ap, refl}
use Rattle.std.specs.Prelude.{nat_eq, nat_lt, not, if◌then◌else◌}
use Rattle.std.proofs.lemmas.Bool.{le-ltb}
use Rattle.lp_code.specs.declared.instruction.Instr.{Instr}
use Rattle.lp_code.specs.declared.instruction.Instr.TheVariants as on
use Rattle.lp_code.specs.declared.rule.Rule.{Rule}
use Rattle.lp_code.specs.declared.rule.Rule.TheVariants as rule
use Rattle.lp_code.specs.States.{State, Home}
use Rattle.lp_code.specs.Denote.{is_named, has_neck, ends_with_proceed, heads, is_known_head, head_passes, has_right_key, broken_by_record}
use Rattle.lp_gen.proofs.Denoting.{or_none}

pub neck_inside : (xs ys : List Instr) → has_neck (xs ++ on.Neck ∷ ys) ≡ true
neck_inside [] ys = refl
neck_inside (on.TyCon d k ts ∷ xs) ys = neck_inside xs ys
neck_inside (on.TyArr d a b ∷ xs) ys = neck_inside xs ys
neck_inside (on.TyNew d ∷ xs) ys = neck_inside xs ys
neck_inside (on.New d t ∷ xs) ys = neck_inside xs ys
neck_inside (on.PutConst d c ts ∷ xs) ys = neck_inside xs ys
neck_inside (on.PutInt d z ∷ xs) ys = neck_inside xs ys
neck_inside (on.PutStr d b ∷ xs) ys = neck_inside xs ys
neck_inside (on.PutIndex d i t ∷ xs) ys = neck_inside xs ys
neck_inside (on.PutAbs d b t ∷ xs) ys = neck_inside xs ys
neck_inside (on.PutApp d f rs ∷ xs) ys = neck_inside xs ys
neck_inside (on.GetType j t ∷ xs) ys = neck_inside xs ys
neck_inside (on.GetVar i d ∷ xs) ys = neck_inside xs ys
neck_inside (on.Get i r ∷ xs) ys = neck_inside xs ys
neck_inside (on.GetConst i c ts ∷ xs) ys = neck_inside xs ys
neck_inside (on.GetInt i z ∷ xs) ys = neck_inside xs ys
neck_inside (on.GetStr i b ∷ xs) ys = neck_inside xs ys
neck_inside (on.Neck ∷ xs) ys = refl
neck_inside (on.Call c ts rs ∷ xs) ys = neck_inside xs ys
neck_inside (on.CallTerm r ∷ xs) ys = neck_inside xs ys
neck_inside (on.Equal t l r ∷ xs) ys = neck_inside xs ys
neck_inside (on.Is t l r ∷ xs) ys = neck_inside xs ys
neck_inside (on.Less l r ∷ xs) ys = neck_inside xs ys
neck_inside (on.Greater l r ∷ xs) ys = neck_inside xs ys
neck_inside (on.AtMost l r ∷ xs) ys = neck_inside xs ys
neck_inside (on.AtLeast l r ∷ xs) ys = neck_inside xs ys
neck_inside (on.Cut ∷ xs) ys = neck_inside xs ys
neck_inside (on.Sigma d t ∷ xs) ys = neck_inside xs ys
neck_inside (on.All d t ∷ xs) ys = neck_inside xs ys
neck_inside (on.EndAll ∷ xs) ys = neck_inside xs ys
neck_inside (on.Assume ns ts rs ∷ xs) ys = neck_inside xs ys
neck_inside (on.EndAssume ∷ xs) ys = neck_inside xs ys
neck_inside (on.Either n ∷ xs) ys = neck_inside xs ys
neck_inside (on.Jump n ∷ xs) ys = neck_inside xs ys
neck_inside (on.Proceed ∷ xs) ys = neck_inside xs ys
neck_inside (on.Not ∷ xs) ys = neck_inside xs ys
neck_inside (on.EndNot ∷ xs) ys = neck_inside xs ys

pub proceed_last : (xs : List Instr) → ends_with_proceed (xs ++ on.Proceed ∷ []) ≡ true
proceed_last [] = refl
proceed_last (on.TyCon d k ts ∷ xs) = proceed_last xs
proceed_last (on.TyArr d a b ∷ xs) = proceed_last xs
proceed_last (on.TyNew d ∷ xs) = proceed_last xs
proceed_last (on.New d t ∷ xs) = proceed_last xs
proceed_last (on.PutConst d c ts ∷ xs) = proceed_last xs
proceed_last (on.PutInt d z ∷ xs) = proceed_last xs
proceed_last (on.PutStr d b ∷ xs) = proceed_last xs
proceed_last (on.PutIndex d i t ∷ xs) = proceed_last xs
proceed_last (on.PutAbs d b t ∷ xs) = proceed_last xs
proceed_last (on.PutApp d f rs ∷ xs) = proceed_last xs
proceed_last (on.GetType j t ∷ xs) = proceed_last xs
proceed_last (on.GetVar i d ∷ xs) = proceed_last xs
proceed_last (on.Get i r ∷ xs) = proceed_last xs
proceed_last (on.GetConst i c ts ∷ xs) = proceed_last xs
proceed_last (on.GetInt i z ∷ xs) = proceed_last xs
proceed_last (on.GetStr i b ∷ xs) = proceed_last xs
proceed_last (on.Neck ∷ xs) = proceed_last xs
proceed_last (on.Call c ts rs ∷ xs) = proceed_last xs
proceed_last (on.CallTerm r ∷ xs) = proceed_last xs
proceed_last (on.Equal t l r ∷ xs) = proceed_last xs
proceed_last (on.Is t l r ∷ xs) = proceed_last xs
proceed_last (on.Less l r ∷ xs) = proceed_last xs
proceed_last (on.Greater l r ∷ xs) = proceed_last xs
proceed_last (on.AtMost l r ∷ xs) = proceed_last xs
proceed_last (on.AtLeast l r ∷ xs) = proceed_last xs
proceed_last (on.Cut ∷ xs) = proceed_last xs
proceed_last (on.Sigma d t ∷ xs) = proceed_last xs
proceed_last (on.All d t ∷ xs) = proceed_last xs
proceed_last (on.EndAll ∷ xs) = proceed_last xs
proceed_last (on.Assume ns ts rs ∷ xs) = proceed_last xs
proceed_last (on.EndAssume ∷ xs) = proceed_last xs
proceed_last (on.Either n ∷ xs) = proceed_last xs
proceed_last (on.Jump n ∷ xs) = proceed_last xs
proceed_last (on.Proceed ∷ []) = refl
proceed_last (on.Proceed ∷ x ∷ xs) = proceed_last (x ∷ xs)
proceed_last (on.Not ∷ xs) = proceed_last xs
proceed_last (on.EndNot ∷ xs) = proceed_last xs

pub record Whole (h : Home) (s : State) : Type 0 where
  pub types : h.self.captured_types ≤ h.self.types
  pub terms : h.self.captured ≤ h.self.registers
  pub known : head_passes (is_known_head h) h.self.head ≡ true
  pub neck : has_neck h.self.code.items ≡ true
  pub headed : head_passes (heads h s) h.self.head ≡ true
  pub ends : ends_with_proceed h.self.code.items ≡ true
  pub named : (if h.self.program then nat_eq (h.self.captured_types + h.self.captured) 0 else is_named h) ≡ true
  pub key : has_right_key h ≡ true

pub whole_sound : (h : Home) (s : State) → Whole h s → (r : Rule) → broken_by_record h s r ≡ false
whole_sound h s w rule.Register = or_none (nat_lt h.self.types h.self.captured_types) (nat_lt h.self.registers h.self.captured)
    (le-ltb h.self.types h.self.captured_types w.types) (le-ltb h.self.registers h.self.captured w.terms)
whole_sound h s w rule.Unset = refl
whole_sound h s w rule.Set = refl
whole_sound h s w rule.Constant = ap not w.known
whole_sound h s w rule.Typing = refl
whole_sound h s w rule.Index = refl
whole_sound h s w rule.Term = refl
whole_sound h s w rule.Order = ap not w.neck
whole_sound h s w rule.Head = ap not w.headed
whole_sound h s w rule.Block = ap not w.ends
whole_sound h s w rule.Clause = by_program h.self.program w.named
  where
    by_program : (p : Bool) → (if p then nat_eq (h.self.captured_types + h.self.captured) 0 else is_named h) ≡ true →
        (if p then not (nat_eq (h.self.captured_types + h.self.captured) 0) else not (is_named h)) ≡ false
    by_program true e = ap not e
    by_program false e = ap not e
whole_sound h s w rule.Key = ap not w.key
