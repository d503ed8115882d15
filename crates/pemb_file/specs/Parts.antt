-- What the parts of an image are as contents.
use Rattle.code_laws.specs.Tour.{code_of}
use Rattle.file_laws.specs.Contents.{Contents}
use Rattle.pemb_file.specs.declared.parts.ImageParts.{ImageParts}

-- what parts are, seen in the same way
abbrev pub contents_of_parts : ImageParts → Contents
contents_of_parts p =
    record {
      code = code_of p.tree.items p.first.items p.starts.items;
      forward = p.forward.items;
      nodes = p.nodes.items;
      edges = p.edges.items;
      faces = p.faces.items;
      regions = p.regions.items;
      places = p.places.items;
      place_order = p.place_order.items;
      isolated = p.isolated.items;
      region_bits = p.region_bits.items;
      members = p.members.items;
    }
