-- One thief after the other joins a new pool, and then they are all of its thieves.
use Rattle.std.proofs.Common.{◌≡◌, ℕ, zero, suc, ◌+◌, List, [], ◌∷◌, ◌++◌, map, length, replicate, All, refl, sym, ap, ◌∙◌, add-one}
use Rattle.std.proofs.lemmas.List.{map-append}
use Rattle.std.proofs.lemmas.List.Elements.{All-nil, All-cons}
use Rattle.steal_pool.specs.meaning.Pool.{PoolId, FeedValue, ThiefValue, AreAllThieves}
use Rattle.steal_pool.specs.calls.Making.{new_feed, new_thief}

replicate-push : {A : Type 0} (n : ℕ) (x : A) → replicate n x ++ x ∷ [] ≡ replicate (suc n) x
replicate-push zero x = refl
replicate-push (suc n) x = ap (λ l. x ∷ l) (replicate-push n x)

map-replicate : {A B : Type 0} (f : A → B) (n : ℕ) (x : A) → map f (replicate n x) ≡ replicate n (f x)
map-replicate f zero x = refl
map-replicate f (suc n) x = ap (λ l. f x ∷ l) (map-replicate f n x)

pub one_more : (pool : PoolId) (made room : ℕ) (feed feed' : FeedValue) (list list' : List ThiefValue) (thief : ThiefValue)
    → feed ≡ new_feed pool made room → list ≡ replicate made (new_thief pool)
    → feed' ≡ record feed { thieves = feed.thieves + 1 } → thief ≡ new_thief feed.pool → list' ≡ list ++ thief ∷ []
    → (feed' ≡ new_feed pool (made + 1) room) × (list' ≡ replicate (made + 1) (new_thief pool))
one_more pool made room feed feed' list list' thief feed_is list_is feed_is' thief_is longer = (
  feed_is' ∙ ap (λ (f : FeedValue). record f { thieves = f.thieves + 1 }) feed_is,
  longer
      ∙ (ap (λ l. l ++ thief ∷ []) list_is
      ∙ (ap (λ t. replicate made (new_thief pool) ++ t ∷ []) (thief_is ∙ ap (λ (f : FeedValue). new_thief f.pool) feed_is)
      ∙ (replicate-push made (new_thief pool) ∙ ap (λ n. replicate n (new_thief pool)) (sym (add-one made))))),
)

-- the thieves of a new pool are all thieves that it has
pub all_thieves : (pool : PoolId) (made room : ℕ) (feed : FeedValue) (list : List ThiefValue)
    → feed ≡ new_feed pool made room → list ≡ replicate made (new_thief pool) → AreAllThieves feed list
all_thieves pool made room feed list feed_is list_is =
    ap (map (λ (t : ThiefValue). t.pool)) list_is
    ∙ (map-replicate (λ (t : ThiefValue). t.pool) made (new_thief pool) ∙ sym (ap (λ (f : FeedValue). replicate f.thieves f.pool) feed_is))

-- all of them are of the pool, and they are as many as it has
pub each_thief : (n : ℕ) (pool : PoolId) (list : List ThiefValue) → map (λ (t : ThiefValue). t.pool) list ≡ replicate n pool
    → All (λ (t : ThiefValue). t.pool ≡ pool) list × (length list ≡ n)
each_thief zero pool [] same = (All-nil (λ (t : ThiefValue). t.pool ≡ pool), refl)
each_thief zero pool (t ∷ ts) same = absurd (cc)
each_thief (suc n) pool [] same = absurd (cc)
each_thief (suc n) pool (t ∷ ts) same =
    let here : t.pool ≡ pool = cc in
    let there : map (λ (u : ThiefValue). u.pool) ts ≡ replicate n pool = cc in
    let rest = each_thief n pool ts there in
    (All-cons (λ (u : ThiefValue). u.pool ≡ pool) t ts here rest.0, ap suc rest.1)

-- where the last of some thieves and the others come back, each of its pool, the list is of the same pools
pub same_pools : (rest others thieves list : List ThiefValue) (last last' : ThiefValue) → thieves ≡ rest ++ last ∷ []
    → map (λ (t : ThiefValue). t.pool) others ≡ map (λ (t : ThiefValue). t.pool) rest → last'.pool ≡ last.pool → list ≡ others ++ last' ∷ []
    → map (λ (t : ThiefValue). t.pool) list ≡ map (λ (t : ThiefValue). t.pool) thieves
same_pools rest others thieves list last last' thieves_are others_are last_is list_is =
    let pools : List ThiefValue → List PoolId = map (λ (t : ThiefValue). t.pool) in
    ap pools list_is
    ∙ (map-append (λ (t : ThiefValue). t.pool) others (last' ∷ [])
    ∙ (ap (λ l. l ++ last'.pool ∷ []) others_are
    ∙ (ap (λ p. pools rest ++ p ∷ []) last_is ∙ (sym (map-append (λ (t : ThiefValue). t.pool) rest (last ∷ [])) ∙ sym (ap pools thieves_are)))))
