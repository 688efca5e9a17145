-- Cells from which nothing leads to a variable, call after call.
use Rattle.std.proofs.Common.{◌≡◌, ℕ, suc, ◌+◌, ◌<◌, ◌≤◌, List, [], ◌∷◌, ◌++◌, length, take, take_all, slice_index_or, refl, sym, ap, ◌∙◌, subst, arith, length-append}
use Rattle.std.specs.Prelude.{All}
use Rattle.std.proofs.lemmas.List.{get_or_default}
use Rattle.std.proofs.lemmas.List.Elements.{All-weaker}
use Rattle.lp_lemmas.proofs.Elements.{All_pushed, All_popped}
use Rattle.lp_lemmas.proofs.Lists.{get_read, take_suc}
use Rattle.lp_store.specs.declared.cell.Cell.{Cell}
use Rattle.lp_store.specs.declared.cell.CellId.{CellId}
use Rattle.lp_store.specs.Contents.{Contents}
use Rattle.lp_store.specs.Reading.{Avoids}
use Rattle.lp_store.specs.Change.{with_cell}
use Rattle.lp_unify.specs.declared.settle.Task.{Task}
use Rattle.lp_unify.specs.declared.settle.Task.TheVariants.{Visit, Abstract, Apply}
use Rattle.lp_unify.specs.Frames.{Stays, IsFresh}
use Rattle.lp_unify.specs.Inside.{IsApart, IsTaskFor, IsSettling}

pub apart_stays : (s z : Contents) (x : ℕ) (c : CellId) → Stays s z → x < length s.cells → IsApart s x c → IsApart z x c
apart_stays s z x c k h p = (omega (arith, p.0, k.grows.more_cells), k.avoids x c.0 h p.0 p.1)

pub all_apart_stays : (s z : Contents) (x : ℕ) (cs : List CellId) → Stays s z → x < length s.cells → All (IsApart s x) cs → All (IsApart z x) cs
all_apart_stays s z x cs k h a = All-weaker (IsApart s x) (IsApart z x) (λ c p. apart_stays s z x c k h p) cs a

task_stays : (s z : Contents) (x : ℕ) → Stays s z → x < length s.cells → (t : Task) → IsTaskFor s x t → IsTaskFor z x t
task_stays s z x k h (Visit c o) p = tt
task_stays s z x k h (Abstract c) p = tt
task_stays s z x k h (Apply c f n) p = apart_stays s z x f k h p

pub settling_stays : (s z : Contents) (x : ℕ) (ts : List Task) (ms : List CellId) → Stays s z → x < length s.cells → IsSettling s x ts ms → IsSettling z x ts ms
settling_stays s z x ts ms k h w = record {
  tasks = All-weaker (IsTaskFor s x) (IsTaskFor z x) (task_stays s z x k h) ts w.tasks;
  made = all_apart_stays s z x ms k h w.made;
}

pub variable_stays : (s z : Contents) (x : ℕ) → Stays s z → x < length s.cells → x < length z.cells
variable_stays s z x k h = omega (arith, h, k.grows.more_cells)

-- one more result, or task
pub settling_made : (s : Contents) (x : ℕ) (ts us : List Task) (ms ns : List CellId) (c : CellId) → us ≡ ts → ns ≡ ms ++ c ∷ [] → IsApart s x c → IsSettling s x ts ms → IsSettling s x us ns
settling_made s x ts us ms ns c e f p w = record { tasks = subst (All (IsTaskFor s x)) (sym e) w.tasks; made = All_pushed (IsApart s x) ns ms c f w.made p }

pub settling_task : (s : Contents) (x : ℕ) (ts us : List Task) (ms ns : List CellId) (t : Task) → us ≡ ts ++ t ∷ [] → ns ≡ ms → IsTaskFor s x t → IsSettling s x ts ms → IsSettling s x us ns
settling_task s x ts us ms ns t e f p w = record { tasks = All_pushed (IsTaskFor s x) us ts t e w.tasks p; made = subst (All (IsApart s x)) (sym f) w.made }

pub settling_popped : (s : Contents) (x : ℕ) (ts us : List Task) (ms ns : List CellId) (c : CellId) → us ≡ ts → ms ≡ ns ++ c ∷ [] → IsSettling s x ts ms → IsSettling s x us ns × IsApart s x c
settling_popped s x ts us ms ns c e f w =
    let a = All_popped (IsApart s x) ms ns c f w.made in
    (record { tasks = subst (All (IsTaskFor s x)) (sym e) w.tasks; made = a.0 }, a.1)

pub settling_taken : (s : Contents) (x : ℕ) (ts us : List Task) (ms ns : List CellId) (t : Task) → ts ≡ us ++ t ∷ [] → ns ≡ ms → IsSettling s x ts ms → IsSettling s x us ns × IsTaskFor s x t
settling_taken s x ts us ms ns t e f w =
    let a = All_popped (IsTaskFor s x) ts us t e w.tasks in
    (record { tasks = a.0; made = subst (All (IsApart s x)) (sym f) w.made }, a.1)

-- elements so far
pub all_take_more : {A : Type 0} (P : A → Type 0) (xs : List A) (i : ℕ) (x : A) → i < length xs → x ≡ slice_index_or xs i x → All P (take i xs) → P x → All P (take (i + 1) xs)
all_take_more P xs i x h e a p =
    let q : suc i ≡ i + 1 = omega arith in
    subst (λ n. All P (take n xs)) q (All_pushed P (take (suc i) xs) (take i xs) x (take_suc xs i x (get_read xs xs i x x refl h e)) a p)

pub all_take_next : {A : Type 0} (P : A → Type 0) (xs : List A) (i : ℕ) (d : A) → i < length xs → All P (take i xs) → P (slice_index_or xs i d) → All P (take (i + 1) xs)
all_take_next P xs i d h a p = all_take_more P xs i (slice_index_or xs i d) h (get_or_default xs i d (slice_index_or xs i d) h) a p

pub all_taken : {A : Type 0} (P : A → Type 0) (xs : List A) (i : ℕ) → length xs ≤ i → All P (take i xs) → All P xs
all_taken P xs i h a = subst (All P) (take_all i xs h) a

-- what is pushed
pub fresh_pushed : (s z : Contents) (c : Cell) (i : CellId) → z ≡ with_cell s c → i.0 ≡ length s.cells → ((x : ℕ) → x < length s.cells → Avoids z x i.0) → IsFresh s z i
fresh_pushed s z c i e f a x h =
    let n : length z.cells ≡ length s.cells + 1 = ap (λ y. length y.cells) e ∙ length-append s.cells (c ∷ []) in
    (omega (arith, n, f), a x h)

pub apart_pushed : (s z : Contents) (c : Cell) (i : CellId) (x : ℕ) → z ≡ with_cell s c → i.0 ≡ length s.cells → Avoids z x i.0 → IsApart z x i
apart_pushed s z c i x e f a =
    let n : length z.cells ≡ length s.cells + 1 = ap (λ y. length y.cells) e ∙ length-append s.cells (c ∷ []) in
    (omega (arith, n, f), a)
