-- The fields of a map: each key has a place of its own, what is stored there is read there, and nothing else moves.
-- Assumes nothing.
use Rattle.std.proofs.Common.{◌≡◌, ℕ, ◌<◌, [], ◌∷◌, length, get_or, refl, sym, ap, ◌∙◌, arith}
use Rattle.std.specs.Prelude.{Option, Some, None, is_some}
use lib.Seq.{get_or-set_same, get_or-set_other}
use Rattle.cbor.specs.declared.Value.{Value}
use Rattle.fields.specs.declared.Key.{Key}
use Rattle.fields.specs.declared.Fields.{Fields}
use Rattle.fields.specs.Fields.{index_of, under, stored, KeysApart, StoredBack, OthersStay}

-- the key of an index: the keys in their row
abbrev key_at : ℕ → Key
key_at n =
    get_or
    (Key.Text
    ∷ Key.Data
    ∷ Key.Sha
    ∷ Key.Off
    ∷ Key.Len
    ∷ Key.Image
    ∷ Key.Upgrade
    ∷ Key.Slot
    ∷ Key.Rc
    ∷ [])
    n
    Key.Rc

-- the index of a key leads back to it
key_back : (k : Key) → key_at (index_of k) ≡ k
unfolding index_of
key_back Key.Text = refl
key_back Key.Data = refl
key_back Key.Sha = refl
key_back Key.Off = refl
key_back Key.Len = refl
key_back Key.Image = refl
key_back Key.Upgrade = refl
key_back Key.Slot = refl
key_back Key.Rc = refl

pub keys_apart : KeysApart
keys_apart j k e = sym (key_back j) ∙ ap key_at e ∙ key_back k

-- there are nine keys
pub key_index : (k : Key) → index_of k < 9
unfolding index_of
key_index Key.Text = omega arith
key_index Key.Data = omega arith
key_index Key.Sha = omega arith
key_index Key.Off = omega arith
key_index Key.Len = omega arith
key_index Key.Image = omega arith
key_index Key.Upgrade = omega arith
key_index Key.Slot = omega arith
key_index Key.Rc = omega arith

-- what is stored under a key stands there
pub stored_here : (k : Key) (v : Value) (f : Fields) → length f.values ≡ 9 → under k (stored k v f) ≡ Some v
unfolding stored
stored_here k v f size = get_or-set_same f.values (index_of k) (Some v) None (omega (arith, key_index k))

pub stored_back : StoredBack
stored_back k v f size = (ap (λ (o : Option Value). is_some o) (stored_here k v f size), stored_here k v f size)

pub others_stay : OthersStay
unfolding stored
others_stay j k v f other = get_or-set_other f.values (index_of k) (index_of j) (Some v) None (λ e. other (keys_apart j k e))
