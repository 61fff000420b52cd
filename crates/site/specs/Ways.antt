-- The links and ways of the code, by their numbers and as what they mean.
use Rattle.std.specs.Prelude.{ℕ, ◌+◌}
use Rattle.limits.specs.Limits.{general_links}
use Rattle.semantics.specs.Form as form
use Rattle.site.specs.declared.ways.Link.{Link}
use Rattle.site.specs.declared.ways.Link.TheVariants.{General, Functional}
use Rattle.site.specs.declared.ways.Way.{Way}
use Rattle.site.specs.declared.ways.Way.TheVariants.{Along, Against, Everywhere}

-- a link's number among all: the general ones come first
abbrev pub link_number : Link → ℕ
link_number (General k) = k.number
link_number (Functional k) = general_links + k.number

-- the way of the semantics
abbrev pub meant : Way → form.Way
meant (Along l) = form.along (link_number l)
meant (Against l) = form.against (link_number l)
meant Everywhere = form.every
