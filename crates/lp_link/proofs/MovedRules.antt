-- A moved instruction breaks no rule where the instruction broke none.
use Rattle.std.proofs.Common.{◌≡◌, ◌∙◌, ◌+◌, ◌-◌, ◌<◌, ℕ, List, [], ◌∷◌, map, Bool, true, false, Option, Some, None, ap, refl, sym, arith}
use Rattle.std.specs.Prelude.{option_map, if◌then◌else◌, nat_eq, nat_lt, nat_le, ◌&&◌, ◌||◌, is_some, is_none}
use Rattle.std.specs.List.{list_any}
use Rattle.std.proofs.lemmas.Bool.{ltb-false, ne_eqb}
use Rattle.lp_lemmas.proofs.Booleans.{and_true_left, and_true_right}
use Rattle.lp_calculus.specs.Types.{Ty}
use Rattle.lp_calculus.specs.Term.{Term, index, atom, abs, app, constant, integer, text, eigen, logic, param}
use Rattle.lp_calculus.specs.Typing.{Scheme}
use Rattle.lp_term.specs.Mapped.{Map, mapped, mapped_type}
use Rattle.lp_code.specs.declared.instruction.Instr.{Instr}
use Rattle.lp_code.specs.declared.instruction.Instr.TheVariants as on
use Rattle.lp_code.specs.Length.{length_of}
use Rattle.lp_code.specs.Symbolic.{Built, applied_type, agree_at, agree, joined, all_agree, innermost}
use Rattle.lp_code.specs.States.{Block, under_sigma, under_all, under_assumption, under_not, left_side, right_side}
use Rattle.lp_code.specs.Rules.{has_count, has_type, built_types, applies, is_no_term, has_none, scheme_count, is_variable_of, stands_in, ends_with_jump, begins_behind, is_left_end, ends_block, side_is_passed}
use Rattle.lp_link.specs.Renumbering.{moving, moved_scheme, IsMoved, AllMoved, KeepsStandard}
use Rattle.lp_link.specs.inner.Renumbering.{moved_loose, moved_built, moved_block}
use Rattle.lp_link.proofs.MovedTerms.{equal_moved, applied_moved, agree_at_moved, agree_moved, joined_moved, innermost_moved as innermost_loose_moved}
use Rattle.lp_link.proofs.MovedGoals.{same_home}
use Rattle.lp_link.proofs.MovedOperands.{operands_same}

pub any_mapped : {A B : Type 0} (p : B → Bool) (q : A → Bool) (h : A → B) → ((x : A) → p (h x) ≡ q x) → (xs : List A) → list_any p (map h xs) ≡ list_any q xs
any_mapped p q h e [] = refl
any_mapped p q h e (x ∷ xs) = λ j. e x j || any_mapped p q h e xs j

pub none_mapped : {A B : Type 0} (h : A → B) (xs : List A) → has_none (map h xs) ≡ has_none xs
none_mapped h [] = refl
none_mapped h (x ∷ xs) = refl

pub is_none_mapped : {A B : Type 0} (h : A → B) (o : Option A) → is_none (option_map h o) ≡ is_none o
is_none_mapped h None = refl
is_none_mapped h (Some x) = refl

pub is_some_mapped : {A B : Type 0} (h : A → B) (o : Option A) → is_some (option_map h o) ≡ is_some o
is_some_mapped h None = refl
is_some_mapped h (Some x) = refl

pub count_mapped : (m : Map) (o : Option Scheme) (k : ℕ) → has_count (option_map (moved_scheme m) o) k ≡ has_count o k
count_mapped m None k = refl
count_mapped m (Some c) k = refl

pub scheme_mapped : (m : Map) (o : Option Scheme) → scheme_count (option_map (moved_scheme m) o) ≡ scheme_count o
scheme_mapped m None = refl
scheme_mapped m (Some c) = refl

-- types that are right stay right
module _ (m : Map) where
  pub type_kept : (o : Option Ty) (T : Ty) → has_type o T ≡ true → has_type (option_map (mapped_type m) o) (mapped_type m T) ≡ true
  type_kept None T e = absurd (let z : false ≡ true = e in cc)
  type_kept (Some U) T e = equal_moved m U T e

  pub built_types_moved : (bs : List Built) → built_types (map (moved_built m) bs) ≡ map (mapped_type m) (built_types bs)
  built_types_moved [] = refl
  built_types_moved (b ∷ bs) = ap (λ l. mapped_type m b.type ∷ l) (built_types_moved bs)

  pub applied_kept : (T : Ty) (Us : List Ty) (R : Ty) → has_type (applied_type T Us) R ≡ true → has_type (applied_type (mapped_type m T) (map (mapped_type m) Us)) (mapped_type m R) ≡ true
  applied_kept T Us R e = by (applied_type T Us) refl e
    where
      by : (o : Option Ty) → applied_type T Us ≡ o → has_type o R ≡ true → has_type (applied_type (mapped_type m T) (map (mapped_type m) Us)) (mapped_type m R) ≡ true
      by None h e = absurd (let z : false ≡ true = e in cc)
      by (Some U) h e = ap (λ o. has_type o (mapped_type m R)) (applied_moved m T Us U h) ∙ equal_moved m U R e

  pub some_applied : (T : Ty) (Us : List Ty) → is_some (applied_type T Us) ≡ true → is_some (applied_type (mapped_type m T) (map (mapped_type m) Us)) ≡ true
  some_applied T Us e = by (applied_type T Us) refl e
    where
      by : (o : Option Ty) → applied_type T Us ≡ o → is_some o ≡ true → is_some (applied_type (mapped_type m T) (map (mapped_type m) Us)) ≡ true
      by None h e = absurd (let z : false ≡ true = e in cc)
      by (Some U) h e = ap is_some (applied_moved m T Us U h)

  pub all_agree_kept : (l : List (Option Ty)) (bs : List Built) → all_agree l bs ≡ true → all_agree (moved_loose m l) (map (moved_built m) bs) ≡ true
  all_agree_kept l [] e = refl
  all_agree_kept l (b ∷ bs) e =
      (λ j. agree_moved m l b.loose (and_true_left (agree l b.loose) (all_agree (joined l b.loose) bs) e) j && all_agree (joined_moved m l b.loose j) (map (moved_built m) bs))
      ∙ all_agree_kept (joined l b.loose) bs (and_true_right (agree l b.loose) (all_agree (joined l b.loose) bs) e)

  pub applies_kept : (x : Built) (bs : List Built) → applies x bs ≡ true → applies (moved_built m x) (map (moved_built m) bs) ≡ true
  applies_kept x [] e = absurd (let z : false ≡ true = e in cc)
  applies_kept x (b ∷ bs) e =
      (λ j. is_some (applied_type (mapped_type m x.type) (built_types_moved (b ∷ bs) j)) && all_agree (moved_loose m x.loose) (map (moved_built m) (b ∷ bs)))
      ∙ (λ j. some_applied x.type (built_types (b ∷ bs)) (and_true_left (is_some (applied_type x.type (built_types (b ∷ bs))))
      (all_agree x.loose (b ∷ bs)) e) j && all_agree_kept x.loose (b ∷ bs) (and_true_right (is_some (applied_type x.type (built_types (b ∷ bs))))
      (all_agree x.loose (b ∷ bs)) e) j)

  pub loose_kept : (l : List (Option Ty)) (T : Ty) → agree_at (innermost l) (Some T) ≡ true → agree_at (innermost (moved_loose m l)) (Some (mapped_type m T)) ≡ true
  loose_kept l T e = ap (λ o. agree_at o (Some (mapped_type m T))) (innermost_loose_moved m l) ∙ agree_at_moved m (innermost l) (Some T) e

-- constants that stand in no term
pub no_term_above : (c : ℕ) → nat_lt c 32 ≡ false → is_no_term c ≡ false
no_term_above c e = λ j. differs 2 (omega arith) j || (differs 3 (omega arith) j || (differs 7 (omega arith) j || (differs 24 (omega arith) j || false)))
  where
    differs : (k : ℕ) → k < 32 → nat_eq c k ≡ false
    differs k l = ne_eqb c k (λ z. let h = ltb-false c 32 e in omega (arith, h, l, z))

pub no_term_moved : (f g : ℕ → ℕ) → KeepsStandard f g → (c : ℕ) → is_no_term (g c) ≡ is_no_term c
no_term_moved f g keeps c = by (nat_lt c 32) refl
  where
    by : (b : Bool) → nat_lt c 32 ≡ b → is_no_term (g c) ≡ is_no_term c
    by true e = ap is_no_term (keeps.constants c e)
    by false e = no_term_above (g c) (keeps.declared c e) ∙ sym (no_term_above c e)

-- what stands in a term
module _ (f g : ℕ → ℕ) (n : ℕ) where
  abbrev m : Map
  m = moving f g n

  pub variable_kept : (t : Term) (r h : ℕ) → is_variable_of (mapped m t) r (h + n) ≡ is_variable_of t r h
  variable_kept (index i) r h = refl
  variable_kept (atom (logic x k)) r h = ap (λ b. nat_eq x r && b) (same_home f g n k h)
  variable_kept (atom (constant c ts)) r h = refl
  variable_kept (atom (integer z)) r h = refl
  variable_kept (atom (text s)) r h = refl
  variable_kept (atom (eigen k)) r h = refl
  variable_kept (atom (param k T)) r h = refl
  variable_kept (abs b) r h = refl
  variable_kept (app t u) r h = refl

  pub stands_kept : (r h : ℕ) (t : Term) → stands_in r (h + n) (mapped m t) ≡ stands_in r h t
  stands_kept r h (index i) = refl
  stands_kept r h (atom (logic x k)) = ap (λ b. nat_eq x r && b) (same_home f g n k h)
  stands_kept r h (atom (constant c ts)) = refl
  stands_kept r h (atom (integer z)) = refl
  stands_kept r h (atom (text s)) = refl
  stands_kept r h (atom (eigen k)) = refl
  stands_kept r h (atom (param k T)) = refl
  stands_kept r h (abs b) = stands_kept r h b
  stands_kept r h (app t u) = λ j. stands_kept r h t j || stands_kept r h u j

-- blocks
module _ (m : Map) where
  pub passed_kept : (k : ℕ) (b : Block) → side_is_passed k (moved_block m b) ≡ side_is_passed k b
  passed_kept k (under_sigma r T) = refl
  passed_kept k (under_all r T) = refl
  passed_kept k (under_assumption cs) = refl
  passed_kept k under_not = refl
  passed_kept k (left_side e) = refl
  passed_kept k (right_side e l) = refl

  pub left_end_kept : (k : ℕ) (o : Option Block) → is_left_end k (option_map (moved_block m) o) ≡ is_left_end k o
  left_end_kept k None = refl
  left_end_kept k (Some (under_sigma r T)) = refl
  left_end_kept k (Some (under_all r T)) = refl
  left_end_kept k (Some (under_assumption cs)) = refl
  left_end_kept k (Some under_not) = refl
  left_end_kept k (Some (left_side e)) = refl
  left_end_kept k (Some (right_side e l)) = refl

  pub all_ended : (o : Option Block) → ends_block on.EndAll (option_map (moved_block m) o) ≡ ends_block on.EndAll o
  all_ended None = refl
  all_ended (Some (under_sigma r T)) = refl
  all_ended (Some (under_all r T)) = refl
  all_ended (Some (under_assumption cs)) = refl
  all_ended (Some under_not) = refl
  all_ended (Some (left_side e)) = refl
  all_ended (Some (right_side e l)) = refl

  pub assumption_ended : (o : Option Block) → ends_block on.EndAssume (option_map (moved_block m) o) ≡ ends_block on.EndAssume o
  assumption_ended None = refl
  assumption_ended (Some (under_sigma r T)) = refl
  assumption_ended (Some (under_all r T)) = refl
  assumption_ended (Some (under_assumption cs)) = refl
  assumption_ended (Some under_not) = refl
  assumption_ended (Some (left_side e)) = refl
  assumption_ended (Some (right_side e l)) = refl

  pub denial_ended : (o : Option Block) → ends_block on.EndNot (option_map (moved_block m) o) ≡ ends_block on.EndNot o
  denial_ended None = refl
  denial_ended (Some (under_sigma r T)) = refl
  denial_ended (Some (under_all r T)) = refl
  denial_ended (Some (under_assumption cs)) = refl
  denial_ended (Some under_not) = refl
  denial_ended (Some (left_side e)) = refl
  denial_ended (Some (right_side e l)) = refl

-- what follows has as many bytes
module _ (m : Map) (n : ℕ) where
  pub begins_kept : (k : ℕ) (is js : List Instr) → AllMoved m n is js → begins_behind k js ≡ begins_behind k is
  begins_kept k [] [] a = refl
  begins_kept k (i ∷ is) (j ∷ js) (x, a) =
      (λ z. if nat_eq k 0 then true else (if nat_lt k ((operands_same m n i j x).long z) then false else begins_behind (k - (operands_same m n i j x).long z) js))
      ∙ ap (λ b. if nat_eq k 0 then true else (if nat_lt k (length_of i) then false else b)) (begins_kept (k - length_of i) is js a)
  begins_kept k [] (j ∷ js) a = absurd a
  begins_kept k (i ∷ is) [] a = absurd a

  pub nothing_kept : (is js : List Instr) → AllMoved m n is js → has_none js ≡ has_none is
  nothing_kept [] [] a = refl
  nothing_kept (i ∷ is) (j ∷ js) a = refl
  nothing_kept [] (j ∷ js) a = absurd a
  nothing_kept (i ∷ is) [] a = absurd a

  pub jump_behind : (k : ℕ) (i j : Instr) (is js : List Instr) → IsMoved m n i j → ((l : ℕ) → ends_with_jump l js ≡ ends_with_jump l is) → ends_with_jump k (j ∷ js) ≡ ends_with_jump k (i ∷ is)
  jump_behind k (on.TyCon d q ts) j is js (us, e, x) go =
      let same = operands_same m n (on.TyCon d q ts) (on.TyCon d (m.kinds q) us) (us, refl, x) in
      ap (λ j. ends_with_jump k (j ∷ js)) e ∙ (λ z. if nat_le k (same.long z) then false else ends_with_jump (k - same.long z) js) ∙ ap
      (λ w. if nat_le k (length_of (on.TyCon d q ts)) then false else w) (go (k - length_of (on.TyCon d q ts)))
  jump_behind k (on.TyArr d a b) j is js e go = ap (λ j. ends_with_jump k (j ∷ js)) e ∙ ap (λ w. if nat_le k (length_of (on.TyArr d a b)) then false else w) (go (k - length_of (on.TyArr d a b)))
  jump_behind k (on.TyNew d) j is js e go = ap (λ j. ends_with_jump k (j ∷ js)) e ∙ ap (λ w. if nat_le k (length_of (on.TyNew d)) then false else w) (go (k - length_of (on.TyNew d)))
  jump_behind k (on.New d t) j is js e go = ap (λ j. ends_with_jump k (j ∷ js)) e ∙ ap (λ w. if nat_le k (length_of (on.New d t)) then false else w) (go (k - length_of (on.New d t)))
  jump_behind k (on.PutConst d c ts) j is js (us, e, x) go =
      let same = operands_same m n (on.PutConst d c ts) (on.PutConst d (m.constants c) us) (us, refl, x) in
      ap (λ j. ends_with_jump k (j ∷ js)) e ∙ (λ z. if nat_le k (same.long z) then false else ends_with_jump (k - same.long z) js) ∙ ap
      (λ w. if nat_le k (length_of (on.PutConst d c ts)) then false else w) (go (k - length_of (on.PutConst d c ts)))
  jump_behind k (on.PutInt d z) j is js e go = ap (λ j. ends_with_jump k (j ∷ js)) e ∙ ap (λ w. if nat_le k (length_of (on.PutInt d z)) then false else w) (go (k - length_of (on.PutInt d z)))
  jump_behind k (on.PutStr d b) j is js (us, e, x) go =
      let same = operands_same m n (on.PutStr d b) (on.PutStr d us) (us, refl, x) in
      ap (λ j. ends_with_jump k (j ∷ js)) e ∙ (λ z. if nat_le k (same.long z) then false else ends_with_jump (k - same.long z) js) ∙ ap
      (λ w. if nat_le k (length_of (on.PutStr d b)) then false else w) (go (k - length_of (on.PutStr d b)))
  jump_behind k (on.PutIndex d i t) j is js e go = ap (λ j. ends_with_jump k (j ∷ js)) e ∙ ap
      (λ w. if nat_le k (length_of (on.PutIndex d i t)) then false else w) (go (k - length_of (on.PutIndex d i t)))
  jump_behind k (on.PutAbs d b t) j is js e go = ap (λ j. ends_with_jump k (j ∷ js)) e ∙ ap (λ w. if nat_le k (length_of (on.PutAbs d b t)) then false else w) (go (k - length_of (on.PutAbs d b t)))
  jump_behind k (on.PutApp d x rs) j is js (us, e, y) go =
      let same = operands_same m n (on.PutApp d x rs) (on.PutApp d x us) (us, refl, y) in
      ap (λ j. ends_with_jump k (j ∷ js)) e ∙ (λ z. if nat_le k (same.long z) then false else ends_with_jump (k - same.long z) js) ∙ ap
      (λ w. if nat_le k (length_of (on.PutApp d x rs)) then false else w) (go (k - length_of (on.PutApp d x rs)))
  jump_behind k (on.GetType i t) j is js e go = ap (λ j. ends_with_jump k (j ∷ js)) e ∙ ap (λ w. if nat_le k (length_of (on.GetType i t)) then false else w) (go (k - length_of (on.GetType i t)))
  jump_behind k (on.GetVar i d) j is js e go = ap (λ j. ends_with_jump k (j ∷ js)) e ∙ ap (λ w. if nat_le k (length_of (on.GetVar i d)) then false else w) (go (k - length_of (on.GetVar i d)))
  jump_behind k (on.Get i r) j is js e go = ap (λ j. ends_with_jump k (j ∷ js)) e ∙ ap (λ w. if nat_le k (length_of (on.Get i r)) then false else w) (go (k - length_of (on.Get i r)))
  jump_behind k (on.GetConst i c ts) j is js (us, e, x) go =
      let same = operands_same m n (on.GetConst i c ts) (on.GetConst i (m.constants c) us) (us, refl, x) in
      ap (λ j. ends_with_jump k (j ∷ js)) e ∙ (λ z. if nat_le k (same.long z) then false else ends_with_jump (k - same.long z) js) ∙ ap
      (λ w. if nat_le k (length_of (on.GetConst i c ts)) then false else w) (go (k - length_of (on.GetConst i c ts)))
  jump_behind k (on.GetInt i z) j is js e go = ap (λ j. ends_with_jump k (j ∷ js)) e ∙ ap (λ w. if nat_le k (length_of (on.GetInt i z)) then false else w) (go (k - length_of (on.GetInt i z)))
  jump_behind k (on.GetStr i b) j is js (us, e, x) go =
      let same = operands_same m n (on.GetStr i b) (on.GetStr i us) (us, refl, x) in
      ap (λ j. ends_with_jump k (j ∷ js)) e ∙ (λ z. if nat_le k (same.long z) then false else ends_with_jump (k - same.long z) js) ∙ ap
      (λ w. if nat_le k (length_of (on.GetStr i b)) then false else w) (go (k - length_of (on.GetStr i b)))
  jump_behind k on.Neck j is js e go = ap (λ j. ends_with_jump k (j ∷ js)) e ∙ ap (λ w. if nat_le k (length_of on.Neck) then false else w) (go (k - length_of on.Neck))
  jump_behind k (on.Call c ts rs) j is js (us, vs, e, x, y) go =
      let same = operands_same m n (on.Call c ts rs) (on.Call (m.constants c) us vs) (us, vs, refl, x, y) in
      ap (λ j. ends_with_jump k (j ∷ js)) e ∙ (λ z. if nat_le k (same.long z) then false else ends_with_jump (k - same.long z) js) ∙ ap
      (λ w. if nat_le k (length_of (on.Call c ts rs)) then false else w) (go (k - length_of (on.Call c ts rs)))
  jump_behind k (on.CallTerm r) j is js e go = ap (λ j. ends_with_jump k (j ∷ js)) e ∙ ap (λ w. if nat_le k (length_of (on.CallTerm r)) then false else w) (go (k - length_of (on.CallTerm r)))
  jump_behind k (on.Equal t l r) j is js e go = ap (λ j. ends_with_jump k (j ∷ js)) e ∙ ap (λ w. if nat_le k (length_of (on.Equal t l r)) then false else w) (go (k - length_of (on.Equal t l r)))
  jump_behind k (on.Is t l r) j is js e go = ap (λ j. ends_with_jump k (j ∷ js)) e ∙ ap (λ w. if nat_le k (length_of (on.Is t l r)) then false else w) (go (k - length_of (on.Is t l r)))
  jump_behind k (on.Less l r) j is js e go = ap (λ j. ends_with_jump k (j ∷ js)) e ∙ ap (λ w. if nat_le k (length_of (on.Less l r)) then false else w) (go (k - length_of (on.Less l r)))
  jump_behind k (on.Greater l r) j is js e go = ap (λ j. ends_with_jump k (j ∷ js)) e ∙ ap (λ w. if nat_le k (length_of (on.Greater l r)) then false else w) (go (k - length_of (on.Greater l r)))
  jump_behind k (on.AtMost l r) j is js e go = ap (λ j. ends_with_jump k (j ∷ js)) e ∙ ap (λ w. if nat_le k (length_of (on.AtMost l r)) then false else w) (go (k - length_of (on.AtMost l r)))
  jump_behind k (on.AtLeast l r) j is js e go = ap (λ j. ends_with_jump k (j ∷ js)) e ∙ ap (λ w. if nat_le k (length_of (on.AtLeast l r)) then false else w) (go (k - length_of (on.AtLeast l r)))
  jump_behind k on.Cut j is js e go = ap (λ j. ends_with_jump k (j ∷ js)) e ∙ ap (λ w. if nat_le k (length_of on.Cut) then false else w) (go (k - length_of on.Cut))
  jump_behind k (on.Sigma d t) j is js e go = ap (λ j. ends_with_jump k (j ∷ js)) e ∙ ap (λ w. if nat_le k (length_of (on.Sigma d t)) then false else w) (go (k - length_of (on.Sigma d t)))
  jump_behind k (on.All d t) j is js e go = ap (λ j. ends_with_jump k (j ∷ js)) e ∙ ap (λ w. if nat_le k (length_of (on.All d t)) then false else w) (go (k - length_of (on.All d t)))
  jump_behind k on.EndAll j is js e go = ap (λ j. ends_with_jump k (j ∷ js)) e ∙ ap (λ w. if nat_le k (length_of on.EndAll) then false else w) (go (k - length_of on.EndAll))
  jump_behind k (on.Assume ns ts rs) j is js (ms, us, vs, e, w, x, y) go =
      let same = operands_same m n (on.Assume ns ts rs) (on.Assume ms us vs) (ms, us, vs, refl, w, x, y) in
      ap (λ j. ends_with_jump k (j ∷ js)) e ∙ (λ z. if nat_le k (same.long z) then false else ends_with_jump (k - same.long z) js) ∙ ap
      (λ w. if nat_le k (length_of (on.Assume ns ts rs)) then false else w) (go (k - length_of (on.Assume ns ts rs)))
  jump_behind k on.EndAssume j is js e go = ap (λ j. ends_with_jump k (j ∷ js)) e ∙ ap (λ w. if nat_le k (length_of on.EndAssume) then false else w) (go (k - length_of on.EndAssume))
  jump_behind k (on.Either q) j is js e go = ap (λ j. ends_with_jump k (j ∷ js)) e ∙ ap (λ w. if nat_le k (length_of (on.Either q)) then false else w) (go (k - length_of (on.Either q)))
  jump_behind k (on.Jump q) j is js e go = ap (λ j. ends_with_jump k (j ∷ js)) e ∙ ap (λ w. if nat_eq k 5 then true else (if nat_lt k 5 then false else w)) (go (k - 5))
  jump_behind k on.Proceed j is js e go = ap (λ j. ends_with_jump k (j ∷ js)) e ∙ ap (λ w. if nat_le k (length_of on.Proceed) then false else w) (go (k - length_of on.Proceed))
  jump_behind k on.Not j is js e go = ap (λ j. ends_with_jump k (j ∷ js)) e ∙ ap (λ w. if nat_le k (length_of on.Not) then false else w) (go (k - length_of on.Not))
  jump_behind k on.EndNot j is js e go = ap (λ j. ends_with_jump k (j ∷ js)) e ∙ ap (λ w. if nat_le k (length_of on.EndNot) then false else w) (go (k - length_of on.EndNot))

  pub jump_kept : (k : ℕ) (is js : List Instr) → AllMoved m n is js → ends_with_jump k js ≡ ends_with_jump k is
  jump_kept k [] [] a = refl
  jump_kept k (i ∷ is) (j ∷ js) (x, a) = jump_behind k i j is js x (λ l. jump_kept l is js a)
  jump_kept k [] (j ∷ js) a = absurd a
  jump_kept k (i ∷ is) [] a = absurd a
