-- What runs of a listing look up. This project's own.
use Rattle.std.specs.Prelude.{◌≡◌, ℕ, ◌+◌}
use Rattle.pcode_model.specs.declared.listing.Listing.{Listing}
use Rattle.pcode_model.specs.Spaces.{size_of, is_big, first_ram, register_space, unique_space, fixed_byte}
use Rattle.run_world.specs.Maps.{at}
use Rattle.run_world.specs.declared.shape.Shape.{Shape}
use Rattle.run_world.specs.declared.setting.Setting.{Setting}

-- how many bytes a space has
abbrev pub size : Shape → ℕ
size shape = shape.last + 1

-- the shape of the space with the number n
pub record HasShape (l : Listing) (n : ℕ) (shape : Shape) : Type 0 where
  pub size : shape.last + 1 ≡ size_of l n
  pub big : shape.big ≡ is_big l n

-- what is looked up is the listing's own
pub record IsSetting (l : Listing) (s : Setting) : Type 0 where
  pub fixed : at s.fixed ≡ fixed_byte l
  pub first_ram : s.first_ram ≡ first_ram l
  pub registers : s.registers ≡ register_space l
  pub uniques : s.uniques ≡ unique_space l
