-- With more room the same is read, but where the room was too little.
use Rattle.std.proofs.Common.{◌≡◌, ℕ, zero, suc, ◌+◌, ◌⊎◌, inl, inr, List, length, Option, None, Some, Result, Ok, Err, codes, refl, sym, ap, subst, ◌∙◌, arith}
use Rattle.line_fields.specs.meaning.Names.{Names}
use Rattle.conditions.specs.declared.condition.Cond.{Cond}
use Rattle.condition_grammar.specs.declared.fault.ConditionKind.{ConditionKind}
use Rattle.condition_grammar.specs.declared.fault.ConditionKind.TheVariants.{TooDeep}
use Rattle.condition_grammar.specs.meaning.Grammar.{Nested, Production, ReadResult, ◌>>=◌, atom, cond_within, conj, if_present, more_items, neg, nested_within, tokens_after}
use Rattle.condition_grammar.specs.meaning.Token.{Token, word, opening}
use Rattle.condition_offences.proofs.Conditions.{chain_of, cond-is, conj-is, conj_of, disj_of, join_with}

-- the one result is that the room was too little, or the other is the same
abbrev pub Wider : {A : Type 0} → Result A ConditionKind → Result A ConditionKind → Type 0
Wider some more = (some ≡ Err TooDeep) ⊎ (more ≡ some)

pub wider-trans : {A : Type 0} (a b c : Result A ConditionKind) → Wider a b → Wider b c → Wider a c
wider-trans a b c (inl e) bc = inl e
wider-trans a b c (inr same) (inl e) = inl (sym same ∙ e)
wider-trans a b c (inr same) (inr too) = inr (too ∙ same)

wider-then : {A B : Type 0} (a b : Result A ConditionKind) (f g : A → Result B ConditionKind) → Wider a b → ((x : A) → Wider (f x) (g x)) → Wider (a >>= f) (b >>= g)
wider-then a b f g (inl e) each = inl (ap (λ r. r >>= f) e)
wider-then {A} {B} a b f g (inr same) each = by_result a b same
  where
    by_result : (a b : Result A ConditionKind) → b ≡ a → Wider (a >>= f) (b >>= g)
    by_result (Ok x) b e = elim (each x) [ inl deep ↦ inl deep | inr too ↦ inr (ap (λ r. r >>= g) e ∙ too) ]
    by_result (Err k) b e = inr (ap (λ r. r >>= g) e)

wider-present : {A : Type 0} (o : Option (List Token)) (f g : List Token → ReadResult A) (a b : ReadResult A) → ((rest : List Token) → Wider (f rest) (g rest)) → Wider a b → Wider (if_present o f a) (if_present o g b)
wider-present (Some rest) f g a b each absent = each rest
wider-present None f g a b each absent = absent

abbrev Widens : Production Cond → Production Cond → Type 0
Widens p q = (ts : List Token) (names : Names) → Wider (p ts names) (q ts names)

wider-items : (t : Token) (p q : Cond → Production Cond) → ((c : Cond) → Widens (p c) (q c)) → (turns : ℕ) (c : Cond) (ts : List Token) (names : Names) → Wider (more_items t p turns c ts names) (more_items t q turns c ts names)
unfolding more_items
wider-items t p q each zero c ts names = inr refl
wider-items t p q each (suc turns) c ts names =
    wider-present (tokens_after t ts) (λ rest. p c rest names >>= λ r. more_items t p turns r.0 r.1 r.2) (λ rest. q c rest names >>= λ r. more_items t q turns r.0 r.1 r.2) (Ok (c, ts, names)) (Ok (c, ts, names))
    (λ rest. wider-then (p c rest names) (q c rest names) (λ r. more_items t p turns r.0 r.1 r.2) (λ r. more_items t q turns r.0 r.1 r.2) (each c rest names) (λ r. wider-items t p q each turns r.0 r.1 r.2)) (inr refl)

wider-chain : (t : Token) (joined : Cond → Cond → Cond) (p q : Production Cond) → Widens p q → Widens (chain_of t joined p) (chain_of t joined q)
wider-chain t joined p q each ts names =
    wider-then (p ts names) (q ts names) (λ c. more_items t (join_with joined p) (length c.1) c.0 c.1 c.2) (λ c. more_items t (join_with joined q) (length c.1) c.0 c.1 c.2) (each ts names)
    (λ c. wider-items t (join_with joined p) (join_with joined q) (λ left ts names. wider-then (p ts names) (q ts names) (λ c. Ok (joined left c.0, c.1, c.2)) (λ c. Ok (joined left c.0, c.1, c.2)) (each ts names) (λ c. inr refl)) (length c.1) c.0 c.1 c.2)

record NestedWider (a b : Nested) : Type 0 where
  cond : Widens a.cond b.cond
  neg : Widens a.neg b.neg

module _ (a b : Nested) (wider : NestedWider a b) where
  wider-neg : Widens (neg a) (neg b)
  unfolding neg atom
  wider-neg ts names =
      wider-present (tokens_after (word (codes "not")) ts) _ _ _ _ (λ rest. wider-then (a.neg rest names) (b.neg rest names) _ _ (wider.neg rest names) (λ c. inr refl))
      (wider-present (tokens_after (word (codes "true")) ts) _ _ _ _ (λ rest. inr refl)
      (wider-present (tokens_after (word (codes "false")) ts) _ _ _ _ (λ rest. inr refl)
      (wider-present (tokens_after opening ts) _ _ _ _ (λ rest. wider-then (a.cond rest names) (b.cond rest names) _ _ (wider.cond rest names) (λ c. inr refl))
      (wider-present (tokens_after (word (codes "shape")) ts) _ _ _ _ (λ rest. inr refl)
      (inr refl)))))

  wider-conj : Widens (conj a) (conj b)
  wider-conj ts names = subst (λ r. Wider r (conj b ts names)) (sym (conj-is a ts names)) (subst (λ r. Wider (chain_of (word (codes "and")) conj_of (neg a) ts names) r) (sym (conj-is b ts names)) (wider-chain (word (codes "and")) conj_of (neg a) (neg b) wider-neg ts names))

  wider-cond : Widens (cond_within a) (cond_within b)
  wider-cond ts names = subst (λ r. Wider r (cond_within b ts names)) (sym (cond-is a ts names)) (subst (λ r. Wider (chain_of (word (codes "or")) disj_of (conj a) ts names) r) (sym (cond-is b ts names)) (wider-chain (word (codes "or")) disj_of (conj a) (conj b) wider-conj ts names))

nested-wider : (room : ℕ) → NestedWider (nested_within room) (nested_within (suc room))
unfolding nested_within
nested-wider zero = record { cond = λ ts names. inl refl; neg = λ ts names. inl refl }
nested-wider (suc room) = record {
  cond = wider-cond (nested_within room) (nested_within (suc room)) (nested-wider room);
  neg = wider-neg (nested_within room) (nested_within (suc room)) (nested-wider room);
}

-- a condition with so much more room
pub cond-wider : (room more : ℕ) (ts : List Token) (names : Names) → Wider (cond_within (nested_within room) ts names) (cond_within (nested_within (more + room)) ts names)
cond-wider room zero ts names = inr (ap (λ n. cond_within (nested_within n) ts names) (let e : 0 + room ≡ room = omega arith in e))
cond-wider room (suc more) ts names =
    wider-trans (cond_within (nested_within room) ts names) (cond_within (nested_within (more + room)) ts names) (cond_within (nested_within (suc more + room)) ts names) (cond-wider room more ts names)
    (subst (λ n. Wider (cond_within (nested_within (more + room)) ts names) (cond_within (nested_within n) ts names)) (let e : suc (more + room) ≡ suc more + room = omega arith in e)
    (wider-cond (nested_within (more + room)) (nested_within (suc (more + room))) (nested-wider (more + room)) ts names))
