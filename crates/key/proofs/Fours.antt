-- The words of four elements.
use Rattle.std.proofs.Common.{◌≡◌, ◌≤◌, true, ℕ, List, length, ℤ, arith}
use Rattle.scheme.specs.Keys.{all_within, key_limit}
use Rattle.key.specs.Stored.{room_of}
use Rattle.key.specs.Words.{SmallWords, FourWords}
use Rattle.key.specs.declared.key.words.Words.{Words}

small_as : (n : ℕ) (a : List ℤ) → n ≤ room_of → length a ≡ n → all_within key_limit a ≡ true → SmallWords a
small_as n a few long small = record { few = omega arith; small = small }

pub four_words : (w : Words) → FourWords w.f.now w.g.now w.cap_f.now w.cap_g.now
four_words w = record {
  f_words = record { few = w.few; small = w.small_f };
  g_words = small_as (length w.f.now) w.g.now w.few w.long_g w.small_g;
  F_words = small_as (length w.f.now) w.cap_f.now w.few w.long_cap_f w.small_cap_f;
  G_words = small_as (length w.f.now) w.cap_g.now w.few w.long_cap_g w.small_cap_g;
  g_long = w.long_g;
  F_long = w.long_cap_f;
  G_long = w.long_cap_g;
}
