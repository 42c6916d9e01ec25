-- The four elements of a key as words. Assumes nothing.
use Rattle.std.specs.Prelude.{◌≡◌, ◌≤◌, true, List, length, ℤ}
use Rattle.scheme.specs.Keys.{all_within, key_limit}
use Rattle.key.specs.Stored.{room_of}

-- one element: at most 1,024 numbers within ±127
pub record SmallWords (a : List ℤ) : Type 0 where
  pub few : length a ≤ room_of
  pub small : all_within key_limit a ≡ true

-- f, g, F and G: of one length
pub record FourWords (f g F G : List ℤ) : Type 0 where
  pub f_words : SmallWords f
  pub g_words : SmallWords g
  pub F_words : SmallWords F
  pub G_words : SmallWords G
  pub g_long : length g ≡ length f
  pub F_long : length F ≡ length f
  pub G_long : length G ≡ length f
