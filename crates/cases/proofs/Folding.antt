-- `try_fold` and `find_map` over items that are known.
use Rattle.std.proofs.Common.{◌≡◌, ℕ, suc, ◌+◌, ◌<◌, true, List, [], ◌∷◌, Some, None, Option, MatchOption, IfSome, IsTrue, refl, sym, ap, ◌∙◌, subst}
use Rattle.std.specs.Iterator.{AlwaysYields, Yields, TryFoldTurn, TryFoldsItems, FindsMapped}
use Rattle.std.specs.Iterator.Runs.{Run, YieldsRun, SomeRun, AllItemsGive, IsFirstToGive, CallKeepsClosure}
use Rattle.std.specs.List.{FoldsTo, slice_get}
use Rattle.std.specs.Fn.{Called}
use Rattle.std.specs.Option.{option_map}
use Rattle.std.specs.ControlFlow.{continue_value}
use Rattle.std.proofs.lemmas.Iterator.{YieldsList}
use Rattle.std.specs.declared.ops.ControlFlow.{ControlFlow}
use denote.Param.Members.{Mut}
use Rattle.cases.specs.Stops.{fold_given}
use Rattle.cases.specs.Lines.{first_given}

-- what `?` makes of an option
abbrev pub branches : {B E : Type 0} → Option B → ControlFlow E B → Type 0
branches s r = s ≡ continue_value r

module _ {S A Y F B : Type 0} (E : Type 0) (steps : S → Option A → S → Type 0) (v : A → Y) (g : Mut F (B × (A × Unit {0})) (Option B)) (step : B → Y → Option B) (f : F)
    (k : (b : B) (x : A) (r : Option B) (q : F) → Called g f (b, (x, tt)) r q → (q ≡ f) × (r ≡ step b (v x))) where
  abbrev Turns : F × B → List A → F × B → Type 0
  Turns = FoldsTo {P = F × B} (TryFoldTurn g (branches {B = B} {E = E}))

  abbrev Ends : Option A → F → B → Option B → Type 0
  Ends o j a r = MatchOption o (r ≡ Some a) (λ x. (w : Option B) × (h : F) × (e : E) × Called g j (a, (x, tt)) w h × (w ≡ None) × (r ≡ None))

  walked : (ys : List Y) (b : B) (s t u : S) (xs : List A) (o : Option A) (a : B) (j : F) (r : Option B)
      → AlwaysYields steps v s ys → Yields steps s xs t → steps t o u → Turns (f, b) xs (j, a) → Ends o j a r → r ≡ fold_given step b ys
  walked [] b s t u [] None a j r e p q d h = h ∙ ap (λ (x : F × B). Some x.1) (sym d)
  walked [] b s t u [] (Some x) a j r e p q d h = absurd (e x u (subst (λ w. steps w (Some x) u) (sym p) q))
  walked [] b s t u (x ∷ xs) o a j r e p q d h = absurd (e x p.0 p.1)
  walked (y ∷ ys) b s t u [] None a j r e p q d h = absurd (e.0 u (subst (λ w. steps w None u) (sym p) q))
  walked (y ∷ ys) b s t u [] (Some x) a j r e p q d (w, i, z, c, none, gone) =
      let at : v x ≡ y = (e.1 x u (subst (λ w. steps w (Some x) u) (sym p) q)).0 in
      let called : Called g f (b, (x, tt)) w i = subst (λ (n : F × B). Called g n.0 (n.1, (x, tt)) w i) (sym d) c in
      let stop : step b y ≡ None = ap (step b) (sym at) ∙ sym (k b x w i called).1 ∙ none in
      rw stop gone
  walked (y ∷ ys) b s t u (x ∷ xs) o a j r e (m, p, ps) q (n, (w, c, on), ds) h =
      let more = e.1 x m p in
      let say = k b x w n.0 c in
      let next : step b y ≡ Some n.1 = ap (step b) (sym more.0) ∙ sym say.1 ∙ on in
      rw next (walked ys n.1 m t u xs o a j r more.1 ps q (subst (λ i. Turns (i, n.1) xs (j, a)) say.0 ds) h)

  pub fold_from_try_fold : (b : B) (r : Option B) (s u : S) (ys : List Y) → TryFoldsItems steps g (branches {B = B} {E = E}) (λ _ w. w ≡ None) s f b r u → YieldsList steps v s ys → r ≡ fold_given step b ys
  fold_from_try_fold b r s u ys (xs, o, j, a, (t, p, q), d, h) e = walked ys b s t u xs o a j r e.runs p q d h

module _ {S A Y F R C : Type 0} (steps : S → Option A → S → Type 0) (v : A → Y) (g : Mut F (A × Unit {0}) (Option R)) (w : R → C) (h : Y → Option C) (f : F)
    (k : (x : A) (r : Option R) (q : F) → Called g f (x, tt) r q → (q ≡ f) × (option_map w r ≡ h (v x))) where
  keeps : CallKeepsClosure g f
  keeps (x, q) r i c = (k x r i c).0

  abbrev Misses : F → List A → F → Type 0
  Misses = FoldsTo (λ p x q. Called g p (x, tt) None q)

  -- f gave z at the first item at which it gave anything
  searched : (ys : List Y) (s t u : S) (xs : List A) (o : Option A) (j : F) (z : R)
      → AlwaysYields steps v s ys → Yields steps s xs t → steps t o u → Misses f xs j → MatchOption o (Some z ≡ None) (λ x. (i : F) × Called g j (x, tt) (Some z) i) → Some (w z) ≡ first_given h ys
  searched [] s t u [] None j z e p q d c = ap (option_map w) c
  searched [] s t u [] (Some x) j z e p q d c = absurd (e x u (subst (λ i. steps i (Some x) u) (sym p) q))
  searched [] s t u (x ∷ xs) o j z e p q d c = absurd (e x p.0 p.1)
  searched (y ∷ ys) s t u [] None j z e p q d c = absurd (e.0 u (subst (λ i. steps i None u) (sym p) q))
  searched (y ∷ ys) s t u [] (Some x) j z e p q d (i, c) =
      let at : v x ≡ y = (e.1 x u (subst (λ n. steps n (Some x) u) (sym p) q)).0 in
      let hit : h y ≡ Some (w z) = ap h (sym at) ∙ sym (k x (Some z) i (subst (λ n. Called g n (x, tt) (Some z) i) (sym d) c)).1 in
      rw hit
  searched (y ∷ ys) s t u (x ∷ xs) o j z e p q d c =
      let more = e.1 x p.0 p.1 in
      let say = k x None d.0 d.1 in
      let miss : h y ≡ None = ap h (sym more.0) ∙ sym say.1 in
      rw miss (searched ys p.0 t u xs o j z more.1 p.2 q (subst (λ i. Misses i xs j) say.0 d.2) c)

  -- f gave nothing at any item
  missed : (ys : List Y) (s t : S) (xs : List A) → AlwaysYields steps v s ys → Yields steps s xs t → ((u : S) × steps t None u) → ((i : ℕ) → IfSome (slice_get xs i) (λ x. Called g f (x, tt) None f)) → None ≡ first_given h ys
  missed [] s t xs e p q a = refl
  missed (y ∷ ys) s t [] e p q a = absurd (e.0 q.0 (subst (λ i. steps i None q.0) (sym p) q.1))
  missed (y ∷ ys) s t (x ∷ xs) e p q a =
      let more = e.1 x p.0 p.1 in
      let miss : h y ≡ None = ap h (sym more.0) ∙ sym (k x None f (a 0)).1 in
      rw miss (missed ys p.0 t xs more.1 p.2 q (λ i. a (suc i)))

  none_missed : (s : S) (ys : List Y) (p : Run steps) → p.from ≡ s → p.whole ≡ true → AllItemsGive p g f None → YieldsList steps v s ys → None ≡ first_given h ys
  unfolding YieldsRun
  none_missed s ys p from whole all e =
      let drained = p.gave.0 in
      missed ys s drained.0 p.items e.runs (subst (λ i. Yields steps i p.items drained.0) from drained.1) (drained.2 whole)
      (λ i. subst (λ o. IfSome o (λ x. Called g f (x, tt) None f)) (p.gave.1 i) (all keeps i))

  pub first_from_find_map : (r : Option R) (s u : S) (ys : List Y) → FindsMapped steps g s f r u
      → SomeRun steps s (λ p. MatchOption r (IsTrue p.whole × AllItemsGive p g f None) (λ y. (i : ℕ) × (i < p.len) × (p.len ≡ i + 1) × IsFirstToGive p g f (Some y) None i))
      → YieldsList steps v s ys → option_map w r ≡ first_given h ys
  first_from_find_map None s u ys ran run e = none_missed s ys run.0 run.1 run.2.0 run.2.1 e
  first_from_find_map (Some z) s u ys (xs, o, j, (t, p, q), d, c) run e = searched ys s t u xs o j z e.runs p q d c
